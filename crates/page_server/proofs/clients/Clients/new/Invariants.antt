use Rattle.std.proofs.Common.{◌≡◌, vec_len}
use Rattle.page_server.proofs.clients.Clients.new.Given as goal

-- so many places are there
abbrev pub invariant-loop-count : goal.invariant-loop-count
invariant-loop-count l = vec_len l.places ≡ l._count
