use Rattle.std.proofs.Common.{◌∙◌}
use Rattle.json.specs.Value.{value_view}
use Rattle.gerrit_events.proofs.Trees.{truth_found}
use Rattle.gerrit_events.proofs.tree.truth.Goals as goal

pub returns : goal.returns
returns c = c.as_bool.ensures ∙ truth_found (value_view c.args.value.now)
