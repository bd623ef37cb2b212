use Rattle.std.proofs.Common.{[], take}
use Rattle.watch_core.specs.Namers.{is_again}
use Rattle.watch_core.specs.Placed.{AreLists, HasNew, IsFoundAgain, left_item, node_of}
use Rattle.watch_core.proofs.bring.put_all_left.Given as goal

abbrev pub invariant-loop-left : goal.invariant-loop-left
invariant-loop-left l = record {
  lists : AreLists l.ready.items l.ranks.items l.out.items;
  ranks : HasNew node_of (IsFoundAgain left_item (is_again l.touched l.reach.all l.reach.items) (take l.left-index l.found)) [] l.initial.ranks.items l.ranks.items;
  out : HasNew left_item (IsFoundAgain left_item (is_again l.touched l.reach.all l.reach.items) (take l.left-index l.found)) l.found l.initial.out.items l.out.items;
}
