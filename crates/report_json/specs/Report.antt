-- The report of a record as JSON, by its tokens, whole or of one item. The keys are the project's own.
use Rattle.std.specs.Prelude.{List, ◌++◌, codes, flat_map, true, false}
use Rattle.json.specs.Token.{Token}
use Rattle.json_line.specs.Tokens.{flagged, listed_tokens, numbered_tokens, object_of, worded}
use Rattle.ready_core.specs.Verdicts.{Judged}
use Rattle.ready_core.specs.Words.{refusal_text}
use Rattle.ready_core.specs.declared.verdicts.Left.{Left}
use Rattle.ready_core.specs.declared.verdicts.Refusal.{Refusal}
use Rattle.state_core.specs.declared.item.Item.{Item}

-- an item: "change":101,"set":2
abbrev pub item_tokens : Item → List Token
item_tokens item = numbered_tokens (codes "change") item.change ++ numbered_tokens (codes "set") item.set

-- why it is left out, in the words of a report: "refusal":"require approval 2"
abbrev pub refusal_tokens : Refusal → List Token
refusal_tokens refusal = worded (codes "refusal") (refusal_text refusal)

-- ---- the report: {"ready":[{"change":101,"set":1}],"out":[{"change":103,"set":1,"refusal":"dependency 104"}]}

abbrev pub ready_tokens : Item → List Token
ready_tokens item = object_of (item_tokens item)

abbrev pub out_tokens : Left → List Token
out_tokens left = object_of (item_tokens left.item ++ refusal_tokens left.refusal)

-- both lists are in the order of the report
abbrev pub report_tokens : Judged → List Token
report_tokens verdicts =
    object_of
    (listed_tokens (codes "ready") (flat_map ready_tokens verdicts.ready)
    ++ listed_tokens (codes "out") (flat_map out_tokens verdicts.out))

-- ---- one item: {"change":101,"set":1,"ready":true} or {..,"ready":false,"refusal":"dependency 104"}

abbrev pub ready_item_tokens : Item → List Token
ready_item_tokens item = object_of (item_tokens item ++ flagged (codes "ready") true)

abbrev pub verdict_members : Left → List Token
verdict_members left = item_tokens left.item ++ (flagged (codes "ready") false ++ refusal_tokens left.refusal)

abbrev pub out_item_tokens : Left → List Token
out_item_tokens left = object_of (verdict_members left)
