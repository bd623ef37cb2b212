use Rattle.std.proofs.Common.{map, sym, ap, ◌∙◌}
use Rattle.json.specs.Value.{value_view}
use Rattle.gerrit_events.specs.Trees.{data_in}
use Rattle.gerrit_events.proofs.Trees.{items_are, alone_is}
use Rattle.gerrit_events.proofs.value.alone_or_items.Goals as goal

pub returns : goal.returns
returns c = items_are c.args.value.now c.in-Some.items.now (sym c.in-Some.ensures)

pub returns-in_default : goal.returns-in_default
returns-in_default c = ap (map data_in) c.from_ref.ensures.value ∙ alone_is
    (value_view c.args.value.now) (sym c.in_default.ensures)
