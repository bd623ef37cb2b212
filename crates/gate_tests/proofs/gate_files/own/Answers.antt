use Rattle.std.proofs.Common.{sym}
use Rattle.gate_tests.proofs.gate_files.own.Goals as goal

pub own-requires : goal.own-requires
own-requires c = (c.in-Some.change.now, sym c.in-Some.ensures, c.has_set.ensures.0 c.if-not-has_set.false)
