use Rattle.std.proofs.Common.{◌∙◌}
use Rattle.json.specs.Value.{value_view}
use Rattle.gerrit_events.proofs.Trees.{text_found}
use Rattle.gerrit_events.proofs.tree.text.Goals as goal

pub returns : goal.returns
returns c = c.as_str.ensures ∙ text_found (value_view c.args.value.now)
