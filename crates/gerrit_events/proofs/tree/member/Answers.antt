use Rattle.std.proofs.Common.{option_map, ap, ◌∙◌}
use Rattle.json.specs.Value.{value_view}
use Rattle.gerrit_events.specs.Trees.{data_of}
use Rattle.gerrit_events.proofs.Trees.{data_of_found, found_in}
use Rattle.gerrit_events.proofs.tree.member.Goals as goal

pub returns : goal.returns
returns c =
    data_of_found c.get.result ∙ ap (option_map data_of) c.get.ensures
    ∙ found_in c.args.key.now (value_view c.args.value.now)
