use Rattle.std.proofs.Common.{◌∙◌, ◌++◌, ap, take}
use Rattle.std.proofs.lemmas.List.{take-append-drop}
use Rattle.state_core.specs.State.{state_of}
use Rattle.replica_core.proofs.gathering.Gathering.joined_by.Goals as goal

pub invariant_of-result : goal.invariant_of-result
invariant_of-result g c =
    let inside = c.self.inside in
    let first = take inside.joined inside.arrivals.items in
    record {
      joined = c.in_ok-state.ensures first c.self.invariant.joined
          ∙ ap (λ l. state_of (first ++ l)) c.since-later.ensures
          ∙ ap state_of (take-append-drop inside.joined inside.arrivals.items);
      is_kept = c.self.invariant.is_kept;
    }
