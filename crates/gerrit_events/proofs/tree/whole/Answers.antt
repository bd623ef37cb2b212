use Rattle.std.proofs.Common.{ap, ◌∙◌}
use Rattle.std.specs.Prelude.{option_and_then}
use Rattle.json.specs.Value.{value_view}
use Rattle.serde_json.specs.Find.{as_i64}
use Rattle.serde_json.specs.Read.{number_of}
use Rattle.gerrit_events.proofs.Trees.{whole_at}
use Rattle.gerrit_events.proofs.tree.whole.Goals as goal

pub returns-in-None : goal.returns-in-None
returns-in-None c = ap (option_and_then (λ s. option_and_then as_i64 (number_of s))) c.in-None.ensures
    ∙ whole_at (value_view c.args.value.now)

pub returns-in-Some : goal.returns-in-Some
returns-in-Some c =
    c.whole_of.ensures ∙ ap (option_and_then (λ s. option_and_then as_i64 (number_of s))) c.in-Some.ensures
    ∙ whole_at (value_view c.args.value.now)
