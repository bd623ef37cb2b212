use Rattle.std.proofs.Common.{◌∙◌, ◌≡◌, ap, sym, subst}
use Rattle.replica_core.specs.Lines.{AreLines}
use Rattle.state_core.specs.State.{state_of}
use Rattle.replica_core.proofs.Effects.{kept_same}
use Rattle.replica_core.proofs.replica.Replica.copy.Goals as goal

pub invariant_of-result : goal.invariant_of-result
invariant_of-result g c =
    let inside = c.self.inside in
    let arrivals : c.in_ok-arrivals.arrivals.items ≡ inside.arrivals.items = c.in_ok-arrivals.ensures in
    record {
      joined = c.in_ok-state.ensures ∙ c.self.invariant.joined ∙ ap state_of (sym arrivals);
      is_kept = kept_same inside.arrivals.items c.in_ok-arrivals.arrivals.items inside.lines c.in_ok-lines.lines inside.latest arrivals
          (subst (λ j. AreLines j c.in_ok-lines.lines) (sym arrivals) (subst (AreLines inside.arrivals.items) (sym c.in_ok-lines.ensures) c.self.invariant.is_kept.lines)) c.self.invariant.is_kept;
    }
