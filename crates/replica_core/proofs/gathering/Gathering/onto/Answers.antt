use Rattle.std.proofs.Common.{◌∙◌, ap, sym, arith}
use Rattle.std.proofs.lemmas.List.{take_all}
use Rattle.state_core.specs.State.{state_of}
use Rattle.replica_core.proofs.gathering.Gathering.onto.Goals as goal

pub invariant_of-result : goal.invariant_of-result
invariant_of-result g c =
    let arrivals = c.replica.inside.arrivals.items in
    record {
      joined = c.replica.invariant.joined ∙ ap state_of (sym (take_all c.len-joined.result arrivals (omega (arith, c.len-joined.ensures))));
      within = omega (arith, c.len-joined.ensures);
      is_kept = c.replica.invariant.is_kept;
    }
