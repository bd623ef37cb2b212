use Rattle.std.proofs.Common.{refl}
use Rattle.page_server.proofs.OwnHosts.{own_or_given}
use Rattle.page_server.proofs.hosts.is_own.Goals as goal

pub returns-then-is_here : goal.returns-then-is_here
returns-then-is_here c = rw (own_or_given c.args.hosts.now c.args.value.now, ← c.is_here.ensures, c.if-is_here.true) refl

pub returns-else-is_here : goal.returns-else-is_here
returns-else-is_here c =
    rw (own_or_given c.args.hosts.now c.args.value.now, ← c.is_here.ensures, c.if-is_here.false) c.is_given.ensures
