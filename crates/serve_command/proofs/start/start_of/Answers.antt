use Rattle.std.proofs.Common.{arith}
use Rattle.serve_command.proofs.Starts.{unused_is_above}
use Rattle.serve_command.proofs.start.start_of.Goals as goal

pub returns-in-Some-2-clause-taken : goal.returns-in-Some-2-clause-taken
returns-in-Some-2-clause-taken g c =
    rw c.in-Some.is (λ from_1 may unused. absurd (omega (arith, c.if-start-le-LAST_START.false, may)))

pub returns-in-Some-2-2-clause-taken : goal.returns-in-Some-2-2-clause-taken
returns-in-Some-2-2-clause-taken g c =
    rw c.in-Some.is (λ from_1 may unused. absurd (omega (
      arith,
      c.if-start-latest.false,
      unused_is_above _ _ _ _ c.latest_start-latest.ensures from_1 unused,
    )))
