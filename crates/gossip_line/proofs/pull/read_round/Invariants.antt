use Rattle.std.proofs.Common.{◌≡◌, ◌-◌, length}
use Rattle.gossip_line.proofs.OneAnswer.{IsBegun}
use Rattle.gossip_line.proofs.pull.read_round.Given as goal

-- the lines so far are operations, and what came past them is held
abbrev pub invariant-lines : goal.invariant-lines
invariant-lines g l =
    let before = l.initial.reader in
    let left = g.S.Source.left in
    IsBegun before.limit before.held l.reader.held (left l.initial.source) (left l.source) l.ops.items
    × (l.reader.limit ≡ before.limit) × (g.S.Source.failed l.source ≡ g.S.Source.failed l.initial.source)

abbrev pub decreases-lines : goal.decreases-lines
decreases-lines g l = 256 - length l.ops.items
