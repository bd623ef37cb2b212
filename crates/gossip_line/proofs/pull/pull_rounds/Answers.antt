use Rattle.std.proofs.Common.{◌++◌, ◌+◌, [], refl, subst, inl, inr, arith}
use Rattle.std.proofs.KnownBytes.{Consumes-nil}
use Rattle.std.specs.Prelude.{string_bytes}
use Rattle.std.proofs.lemmas.Result.{err_from_is_err_and}
use Rattle.line_reader.specs.Lines.{Reading}
use Rattle.gossip_line.proofs.Moments.{moment_of}
use Rattle.gossip_line.proofs.Pulling.{are_all, ends_well, fails_at_quit, fails_in_round, goes_anew, goes_on_with}
use Rattle.gossip_line.proofs.Pulling.{goes_with_more, last_by, none_asked, with_last}
use Rattle.gossip_line.specs.Pull.{IsUngreeted}
use Rattle.gossip_line.proofs.pull.pull_rounds.Goals as goal

pub loop-round-init : goal.loop-round-init
loop-round-init g c =
    let greets = c.in_ok-greet.ensures.greets in
    let before = moment_of g.S.Source g.D.Drain c.args.sink.now c.args.source.now c.args.drain.now in
    let now = moment_of g.S.Source g.D.Drain c.args.sink.now c.greet.new.source c.greet.new.drain in
    none_asked g.K.Sink.sinks c.args.limit before now c.in-Ok.reader c.greet.new.reader greets.0 _ c.in-Ok.ensures
    c.greet.ensures.limit greets.1 greets.2 refl c.new-asked.ensures.bytes

pub returns-in_err-handed : goal.returns-in_err-handed
returns-in_err-handed g c =
    let p = err_from_is_err_and c.from_residual-in_err-handed.result c.from_residual-in_err-handed.ensures.1 in
    let after = moment_of g.S.Source g.D.Drain c.pull_round.new.sink c.pull_round.new.source c.pull_round.new.drain in
    rw (p.1, p.2) (fails_in_round c.loop-round.invariant c.args.most after c.in_err-handed.field-0.0 (omega arith)
    c.in_err-handed.ensures.pulls)

pub returns-in_err-send : goal.returns-in_err-send
returns-in_err-send g c =
    let p = err_from_is_err_and c.from_residual-in_err-send.result c.from_residual-in_err-send.ensures.1 in
    let pulled = c.pull_round.new in
    let now = moment_of g.S.Source g.D.Drain pulled.sink pulled.source pulled.drain in
    let after = moment_of g.S.Source g.D.Drain pulled.sink pulled.source c.send.new.drain in
    let fault = c.in_err-send.field-0.0 in
    let handed = c.in_ok-handed.handed in
    let rounds = with_last c.loop-round.invariant now handed pulled.reader c.pull_round.ensures.limit
    c.in_ok-handed.ensures.pulls in
    let last = last_by c.is_last.result handed.more (string_bytes handed.asked) c.as_str.ensures.value c.is_last.ensures in
    let all = are_all c.loop-round.invariant now handed pulled.reader c.pull_round.ensures.limit
    c.in_ok-handed.ensures.pulls c.args.most (last.0 c.if-is_last.true) in
    rw (p.1, p.2) (fails_at_quit c.args.most after fault rounds (omega arith) (omega arith) all
    c.in_err-send.ensures (refl, refl, refl))

pub returns-then-is_last : goal.returns-then-is_last
returns-then-is_last g c =
    let pulled = c.pull_round.new in
    let handed = c.in_ok-handed.handed in
    let now = moment_of g.S.Source g.D.Drain pulled.sink pulled.source pulled.drain in
    let after = moment_of g.S.Source g.D.Drain pulled.sink pulled.source c.send.new.drain in
    let rounds = with_last c.loop-round.invariant now handed pulled.reader c.pull_round.ensures.limit
    c.in_ok-handed.ensures.pulls in
    let last = last_by c.is_last.result handed.more (string_bytes handed.asked) c.as_str.ensures.value c.is_last.ensures in
    let all = are_all c.loop-round.invariant now handed pulled.reader c.pull_round.ensures.limit
    c.in_ok-handed.ensures.pulls c.args.most (last.0 c.if-is_last.true) in
    ends_well c.args.most (c.loop-round.round + 1) after rounds
    refl (omega arith) (omega arith) all c.in_ok-send.ensures.1 (refl, refl, refl)

pub loop-round-preserved : goal.loop-round-preserved
loop-round-preserved g c =
    let pulled = c.pull_round.new in
    let handed = c.in_ok-handed.handed in
    let now = moment_of g.S.Source g.D.Drain pulled.sink pulled.source pulled.drain in
    let last = last_by c.is_last.result handed.more (string_bytes handed.asked) c.as_str.ensures.value c.is_last.ensures in
    goes_anew c.loop-round.invariant now handed pulled.reader c.pull_round.ensures.limit c.in_ok-handed.ensures.pulls
    (goes_with_more c.is_last.result handed.more last c.if-is_last.false)
    (goes_on_with c.is_last.result handed.more last c.if-is_last.false)

pub returns-in_err-send-2 : goal.returns-in_err-send-2
returns-in_err-send-2 g c =
    let p = err_from_is_err_and c.from_residual-in_err-send-2.result c.from_residual-in_err-send-2.ensures.1 in
    let after = moment_of g.S.Source g.D.Drain c.loop-round.sink c.loop-round.source c.send-2.new.drain in
    let fault = c.in_err-send-2.field-0.0 in
    let so_far = c.loop-round.invariant in
    rw (p.1, p.2) (fails_at_quit c.args.most after fault so_far.whole (omega arith) (omega arith)
    (inr (so_far.anew, omega (arith, so_far.whole.counted))) c.in_err-send-2.ensures (refl, refl, refl))

pub returns : goal.returns
returns g c =
    let after = moment_of g.S.Source g.D.Drain c.loop-round.sink c.loop-round.source c.send-2.new.drain in
    let so_far = c.loop-round.invariant in
    ends_well c.args.most c.args.most after so_far.whole (omega arith) (omega arith) (omega arith)
    (inr (so_far.anew, omega (arith, so_far.whole.counted))) c.in_ok-send-2.ensures.1 (refl, refl, refl)

pub returns-in_default : goal.returns-in_default
returns-in_default g c = ((refl, refl), inl (refl, [], Consumes-nil _, tt, inl refl))

pub returns-in_err-greet : goal.returns-in_err-greet
returns-in_err-greet g c =
    let p = err_from_is_err_and c.from_residual.result c.from_residual.ensures.1 in
    let greets = c.in_err-greet.ensures.greets in
    let fault = c.in_err-greet.field-0.0 in
    let ungreeted = subst
    (λ (r : Reading). IsUngreeted r.limit (r.held ++ greets.0) (g.S.Source.left c.greet.new.source) fault)
    c.in-Ok.ensures greets.2.1 in
    rw (p.1, p.2) (greets.2.0, inl (refl, greets.0, greets.1, ungreeted, greets.2.2))
