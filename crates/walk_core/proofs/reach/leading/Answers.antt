use Rattle.std.proofs.Common.{◌≡◌, ◌∙◌, map, is_some, sym, ap, subst}
use Rattle.std.proofs.lemmas.Result.{IfOk-weaker}
use Rattle.walk_core.specs.Reach.{AreLeading}
use Rattle.walk_core.proofs.Reaching.{AreLeading-distances}
use Rattle.walk_core.proofs.reach.leading.Goals as goal

pub returns : goal.returns
returns g c =
    let graph = c.args.graph.now in
    let marked = c.args.marked.now in
    let distances = c.in_ok-distances.distances.items in
    IfOk-weaker c.are_there.result (λ flags. flags.items ≡ map is_some c.as_slice.result.now)
    (λ flags. AreLeading graph marked flags.items)
    (λ flags are. subst (AreLeading graph marked) (sym (are ∙ ap (map is_some) c.as_slice.ensures.value))
    (AreLeading-distances graph marked distances c.requires c.in_ok-distances.ensures))
    c.are_there.ensures
