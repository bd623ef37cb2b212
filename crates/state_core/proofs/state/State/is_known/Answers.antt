use Rattle.std.proofs.Common.{sym}
use Rattle.state_core.specs.KnownLaws.{known_by}
use Rattle.state_core.proofs.state.State.is_known.Goals as goal

pub returns-in-Some : goal.returns-in-Some
returns-in-Some g c =
    rw c.is_some.ensures (known_by c.args.self.now c.args.number c.in-Some.change.now c.current.result (sym c.in-Some.ensures) c.current.ensures)
