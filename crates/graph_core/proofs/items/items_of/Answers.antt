use Rattle.std.proofs.Common.{map, ap}
use Rattle.std.specs.Map.Iter.{deref_pair}
use Rattle.std.proofs.lemmas.Map.Iter.{rest_all}
use Rattle.graph_core.proofs.Listing.{listed_all}
use Rattle.graph_core.proofs.items.items_of.Goals as goal

pub returns : goal.returns
returns c =
    listed_all c.loop-number.items.items _ c.args.state.now (ap (map (λ pair. (pair.0, pair.1))) (rest_all deref_pair _ _ _ c.in-None.is c.next.ensures.steps)) c.loop-number.invariant
