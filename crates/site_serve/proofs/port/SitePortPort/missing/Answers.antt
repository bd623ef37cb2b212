use Rattle.std.proofs.Common.{length, ap, arith}
use Rattle.std.proofs.Math.Nat.{min-le_left}
use Rattle.std.proofs.lemmas.List.{length-take}
use Rattle.site_serve.proofs.port.SitePortPort.missing.Goals as goal

pub returns-in-Ok-clause-few : goal.returns-in-Ok-clause-few
returns-in-Ok-clause-few g c =
    let all = c.in-Ok.ensures.ok in
    omega (arith, c.in-Ok.missing.ops.ok.0, ap length all.2, length-take 256 all.0, min-le_left 256 (length all.0))
