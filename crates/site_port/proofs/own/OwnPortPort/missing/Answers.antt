use Rattle.std.proofs.Common.{length, ap, arith}
use Rattle.std.proofs.Math.Nat.{min-le_left}
use Rattle.std.proofs.lemmas.List.{length-take}
use Rattle.site_port.proofs.own.OwnPortPort.missing.Goals as goal

pub returns-clause-few : goal.returns-clause-few
returns-clause-few c =
    let all = c.in-Ok.ensures in
    omega (arith, c.in-Ok.missing.ops.ok.0, ap length all.2, length-take 256 all.0, min-le_left 256 (length all.0))
