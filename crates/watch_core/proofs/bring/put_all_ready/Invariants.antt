use Rattle.std.proofs.Common.{[], take}
use Rattle.watch_core.specs.Namers.{is_again}
use Rattle.watch_core.specs.Placed.{AreLists, HasNew, IsFoundAgain, left_item, node_of}
use Rattle.watch_core.proofs.bring.put_all_ready.Given as goal

abbrev pub invariant-loop-rank : goal.invariant-loop-rank
invariant-loop-rank l = record {
  lists : AreLists l.ready.items l.ranks.items l.out.items;
  ranks : HasNew node_of (IsFoundAgain node_of (is_again l.touched l.reach.all l.reach.items) (take l.rank-index l.found)) l.found l.initial.ranks.items l.ranks.items;
  out : HasNew left_item (IsFoundAgain node_of (is_again l.touched l.reach.all l.reach.items) (take l.rank-index l.found)) [] l.initial.out.items l.out.items;
}
