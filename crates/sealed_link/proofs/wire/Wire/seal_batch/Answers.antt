use Rattle.std.proofs.Common.{ap, subst, take}
use Rattle.sealed_line.specs.Sealing.{IsUnsealed, Sealing}
use Rattle.sealed_link.specs.Wires.{Wiring}
use Rattle.sealed_link.proofs.Sealings.{held_up}
use Rattle.sealed_link.proofs.wire.Wire.seal_batch.Goals as goal
use Rattle.sealed_link.proofs.wire.Wire.seal_batch.Goals.{in-Ok, in-Err}

pub returns-clause-err : goal.returns-clause-err
returns-clause-err c =
    elim c.match-seal.branch [
      | in-Ok w ↦ rw w.result-is tt
      | in-Err w ↦
          let text = c.args.text.now in
          let outward = ap (λ (w : Wiring). w.outward) c.self.view_is in
          let why = subst (λ (s : Sealing). IsUnsealed s (take c.in-Some.at text) w.in-Err.fault) outward w.in-Err.ensures.err in
          rw (w.result-is, w.of.ensures) (held_up c.args.self.now.outward text c.in-Some.at w.in-Err.fault c.in-Some.ensures why)
    ]
