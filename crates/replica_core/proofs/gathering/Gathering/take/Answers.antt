use Rattle.std.proofs.Common.{◌∙◌, ap, sym}
use Rattle.state_core.specs.State.{state_of}
use Rattle.replica_core.proofs.Effects.{still_first, IsFirstOf}
use Rattle.replica_core.proofs.gathering.Gathering.take.Goals as goal

pub invariant_of-self : goal.invariant_of-self
invariant_of-self g c =
    let first : IsFirstOf c.self.inside.joined c.self.inside.arrivals.items c.arrive.new.arrivals.items = still_first _ (λ taken. _) c.arrive.result c.self.inside.arrivals.items c.arrive.new.arrivals.items c.args.op c.self.inside.joined
    c.self.invariant.within c.arrive.ensures.ok c.arrive.ensures.err in
    record {
      joined = c.self.invariant.joined ∙ ap state_of (sym first.first);
      within = first.within;
      is_kept = c.arrive.ensures.kept;
    }
