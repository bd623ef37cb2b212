use Rattle.std.proofs.Common.{◌≡◌, take}
use Rattle.site_serve.specs.SitePorts.{stamps_of}
use Rattle.site_serve.proofs.port.stamps_in.Given as goal

-- the stamps of the operations so far
abbrev pub invariant-loop-op : goal.invariant-loop-op
invariant-loop-op l = l.stamps.items ≡ stamps_of (take l.op-index l.ops)
