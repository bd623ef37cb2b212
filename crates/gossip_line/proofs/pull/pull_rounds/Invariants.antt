use Rattle.std.specs.Prelude.{string_bytes}
use Rattle.gossip_line.proofs.Moments.{moment_of}
use Rattle.gossip_line.proofs.Pulling.{GoesAnew}
use Rattle.gossip_line.proofs.pull.pull_rounds.Given as goal

-- so many rounds were whole, and each reported that others are left and asked anew
abbrev pub invariant-loop-round : goal.invariant-loop-round
invariant-loop-round g l =
    let before = moment_of g.S.Source g.D.Drain l.fn.sink l.fn.source l.fn.drain in
    let now = moment_of g.S.Source g.D.Drain l.sink l.source l.drain in
    GoesAnew g.K.Sink.sinks l.limit before now l.round l.taken l.reader (string_bytes l.asked)
