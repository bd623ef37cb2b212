use Rattle.std.proofs.Common.{◌∙◌, ◌++◌, ap, take, drop}
use Rattle.std.proofs.lemmas.List.{take-append-drop}
use Rattle.state_core.specs.State.{state_of}
use Rattle.replica_core.proofs.gathering.Gathering.into_state_by.Goals as goal

pub returns : goal.returns
returns g c =
    let inside = c.self.inside in
    let first = take inside.joined inside.arrivals.items in
    c.in_ok-state.ensures first c.self.invariant.joined
    ∙ ap (λ l. state_of (first ++ l)) (c.split_at_mut-came.ensures.back ∙ ap (drop inside.joined) (c.as_mut_slice.ensures.value ∙ c.in_ok-arrivals.ensures.ok))
    ∙ ap state_of (take-append-drop inside.joined inside.arrivals.items)
    ∙ ap state_of c.self.view_is
