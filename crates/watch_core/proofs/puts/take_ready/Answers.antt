use Rattle.std.proofs.Common.{◌≡◌, Some, subst}
use Rattle.std.specs.Prelude.{slice_get}
use Rattle.std.proofs.Common.{List}
use Rattle.state_core.specs.declared.item.Item.{Item}
use Rattle.watch_core.proofs.Putting.{rank_taken, ready_taken}
use Rattle.watch_core.proofs.puts.take_ready.Goals as goal

pub returns-clause-ready : goal.returns-clause-ready
returns-clause-ready c =
    let at = subst (λ (l : List Item). slice_get l c.in-Some.place ≡ Some c.args.item) c.as_slice.ensures.value c.in-Some.ensures in
    rw (c.remove.ensures.items, c.remove-2.ensures.items)
    (ready_taken c.args.ready.now.items c.args.ranks.now.items c.requires c.in-Some.place c.args.item at)

pub returns-clause-ranks : goal.returns-clause-ranks
returns-clause-ranks c =
    let at = subst (λ (l : List Item). slice_get l c.in-Some.place ≡ Some c.args.item) c.as_slice.ensures.value c.in-Some.ensures in
    rw c.remove-2.ensures.items
    (rank_taken c.args.ready.now.items c.args.ranks.now.items c.requires c.in-Some.place c.args.item at)
