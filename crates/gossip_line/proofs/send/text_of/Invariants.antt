use Rattle.std.proofs.Common.{◌≡◌, take}
use Rattle.std.specs.Prelude.{flat_map}
use Rattle.gossip_line.specs.Texts.{operation_line}
use Rattle.gossip_line.proofs.send.text_of.Given as goal

-- the lines of the operations so far
abbrev pub invariant-loop-op : goal.invariant-loop-op
invariant-loop-op l = l.text.items ≡ flat_map operation_line (take l.op-index l.missing.ops.items)
