-- The text of a report: which items are ready under a gate, and why each other item isn't. The form is the project's
-- own.
use Rattle.std.specs.Prelude.{ℕ, List, ◌++◌, codes, length, flat_map}
use Rattle.std.specs.Fmt.{decimal}
use Rattle.state_core.specs.declared.item.Item.{Item}
use Rattle.ready_core.specs.declared.verdicts.Left.{Left}
use Rattle.ready_core.specs.Verdicts.{Judged}
use Rattle.ready_core.specs.Words.{refusal_text}
use Rattle.byte_ends.specs.Lines.{as_line}

-- ---- the lines

-- the change and the patch set, as `101,2`
abbrev pub item_text : Item → List ℕ
item_text item = decimal item.change ++ codes "," ++ decimal item.set

abbrev pub ready_line : Item → List ℕ
ready_line item = as_line (codes "ready " ++ item_text item)

abbrev pub out_line : Left → List ℕ
out_line left = as_line (codes "out " ++ item_text left.item ++ codes " " ++ refusal_text left.refusal)

-- with the numbers of both kinds of line
abbrev pub end_line : ℕ → ℕ → List ℕ
end_line ready out = as_line (codes "end " ++ decimal ready ++ codes " " ++ decimal out)

-- the items that are ready, one a line, then the others, each with its refusal, and the end line
abbrev pub report_of : Judged → List ℕ
report_of verdicts =
    flat_map ready_line verdicts.ready ++ flat_map out_line verdicts.out ++ end_line (length verdicts.ready)
    (length verdicts.out)
