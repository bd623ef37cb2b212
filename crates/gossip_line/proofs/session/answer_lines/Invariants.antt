use Rattle.std.proofs.Common.{◌≡◌, List, length}
use Rattle.gossip_line.proofs.Moments.{moment_of}
use Rattle.gossip_line.specs.Session.{IsTalk, Turn}
use Rattle.gossip_line.proofs.session.answer_lines.Given as goal

-- so many turns were taken, and the session goes on
abbrev pub invariant-loop-number : goal.invariant-loop-number
invariant-loop-number g l =
    let before = moment_of g.S.Source g.D.Drain l.initial.port l.initial.source l.initial.drain in
    let now = moment_of g.S.Source g.D.Drain l.port l.source l.drain in
    (turns : List Turn) × (length turns ≡ l.number) × IsTalk g.P.Port.gives l.limit before now turns l.reader.held
    × (l.reader.limit ≡ l.limit)
