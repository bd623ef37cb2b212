use Rattle.std.proofs.Common.{◌++◌, ◌∷◌, [], ◌∙◌, refl, sym, ap, inl, inr, arith, length-append, Ok}
use Rattle.line_reader.specs.Lines.{Reading}
use Rattle.std.proofs.KnownBytes.{Consumes-nil}
use Rattle.std.proofs.lemmas.Result.{err_from_is_err_and}
use Rattle.gossip_line.specs.Session.{Turn}
use Rattle.gossip_line.proofs.Ending.{a_line, answered_fault, answered_last, no_line, session_ends, unread_end}
use Rattle.gossip_line.proofs.Moments.{moment_of}
use Rattle.gossip_line.proofs.Talking.{answered_as, last_line, no_talk, talk_on}
use Rattle.gossip_line.proofs.session.answer_lines.Goals as goal

pub loop-number-init : goal.loop-number-init
loop-number-init g c = (
  [],
  refl,
  no_talk g.P.Port.gives c.args.limit _ c.in-Ok.reader.held (ap (λ (r : Reading). r.held) c.in-Ok.ensures),
  ap (λ (r : Reading). r.limit) c.in-Ok.ensures,
)

pub returns-in_default : goal.returns-in_default
returns-in_default g c =
    session_ends [] (no_talk g.P.Port.gives c.args.limit _ [] refl) (omega arith) (Consumes-nil _)
    (record { ended = (refl, refl, refl); counted = refl })

pub returns-in-Ok-false : goal.returns-in-Ok-false
returns-in-Ok-false g c =
    let so_far = c.loop-number.invariant in
    let hands = c.in-Ok-false.ensures.hands in
    let unfinished = no_line c.args.limit c.loop-number.reader c.next_line.new.self hands.0 c.in-Ok-false.field-0
    so_far.3 c.in-Ok-false.field-0-test hands.2 in
    let at_end = c.next_line.ensures.end (c.in-Ok-false.is ∙ ap Ok c.in-Ok-false.field-0-test) in
    session_ends hands.0 so_far.2 (omega (arith, so_far.1)) hands.1
    (record { ended = inl (unfinished, at_end, (refl, refl, refl)); counted = c.in-Ok-false.ensures.counted })

pub returns-in-Err : goal.returns-in-Err
returns-in-Err g c =
    let so_far = c.loop-number.invariant in
    let reader = c.loop-number.reader in
    let hands = c.in-Err.ensures.hands in
    let mid = moment_of g.S.Source g.D.Drain c.loop-number.port c.loop-number.source c.loop-number.drain in
    let after = moment_of g.S.Source g.D.Drain c.loop-number.port c.next_line.new.source c.end_unread.new.drain in
    session_ends hands.0 so_far.2 (omega (arith, so_far.1)) hands.1
    (unread_end g.P.Port.gives c.args.limit c.args.most so_far.0 mid (reader.held ++ hands.0) after
    c.in-Err.fault reader c.next_line.new.self hands.0 c.end_unread.result so_far.3 refl refl hands.2
    c.in-Err.ensures.counted c.end_unread.ensures)

pub returns : goal.returns
returns g c =
    let so_far = c.loop-number.invariant in
    session_ends [] so_far.2 (omega (arith, so_far.1)) (Consumes-nil _)
    (record { ended = ((refl, refl, refl), inr (omega (arith, so_far.1), refl)); counted = tt })

pub returns-in_err-answer : goal.returns-in_err-answer
returns-in_err-answer g c =
    let p = err_from_is_err_and c.from_residual.result c.from_residual.ensures.1 in
    let so_far = c.loop-number.invariant in
    let reader = c.loop-number.reader in
    let hands = c.in-Ok-true.ensures.hands in
    let read = a_line c.args.limit reader c.next_line.new.self hands.0 c.in-Ok-true.field-0 so_far.3
    c.in-Ok-true.field-0-test hands.2 in
    let said = c.in_err-answer.ensures in
    let mid = moment_of g.S.Source g.D.Drain c.loop-number.port c.loop-number.source c.loop-number.drain in
    let after = moment_of g.S.Source g.D.Drain c.answer.new.port c.next_line.new.source c.answer.new.drain in
    let last = last_line g.P.Port.gives c.args.limit so_far.0 c.loop-number.number c.loop-number.port
    (reader.held ++ hands.0) c.next_line.new.self.held c.line.result.now said.0 c.answer.new.port
    so_far.1 read.0 read.1 (c.line.ensures ∙ read.2) said.1 in
    rw (p.1, p.2) (session_ends hands.0 so_far.2 (omega (arith, so_far.1)) hands.1
    (answered_fault g.P.Port.gives c.args.limit c.args.most so_far.0 mid (reader.held ++ hands.0) after said.0
    c.in_err-answer.field-0.0 last c.in-Ok-true.ensures.counted said.2))

pub returns-then-not-branch : goal.returns-then-not-branch
returns-then-not-branch g c =
    let so_far = c.loop-number.invariant in
    let reader = c.loop-number.reader in
    let hands = c.in-Ok-true.ensures.hands in
    let read = a_line c.args.limit reader c.next_line.new.self hands.0 c.in-Ok-true.field-0 so_far.3
    c.in-Ok-true.field-0-test hands.2 in
    let said = c.in_ok-answer.ensures in
    let mid = moment_of g.S.Source g.D.Drain c.loop-number.port c.loop-number.source c.loop-number.drain in
    let after = moment_of g.S.Source g.D.Drain c.answer.new.port c.next_line.new.source c.answer.new.drain in
    let last = last_line g.P.Port.gives c.args.limit so_far.0 c.loop-number.number c.loop-number.port
    (reader.held ++ hands.0) c.next_line.new.self.held c.line.result.now said.0 c.answer.new.port
    so_far.1 read.0 read.1 (c.line.ensures ∙ read.2) said.1 in
    session_ends hands.0 so_far.2 (omega (arith, so_far.1)) hands.1
    (answered_last g.P.Port.gives c.args.limit c.args.most so_far.0 mid (reader.held ++ hands.0) after said.0
    c.in_ok-answer.field-0 c.if-not-branch.true last c.in-Ok-true.ensures.counted said.2)

pub loop-number-preserved : goal.loop-number-preserved
loop-number-preserved g c =
    let so_far = c.loop-number.invariant in
    let reader = c.loop-number.reader in
    let hands = c.in-Ok-true.ensures.hands in
    let read = a_line c.args.limit reader c.next_line.new.self hands.0 c.in-Ok-true.field-0 so_far.3
    c.in-Ok-true.field-0-test hands.2 in
    let said = c.in_ok-answer.ensures in
    let turn : Turn = record { piece = read.0; answer = said.0 } in
    let answered = answered_as g.P.Port.gives so_far.0 c.loop-number.number c.loop-number.port c.line.result.now
    read.0 said.0 c.answer.new.port so_far.1 (c.line.ensures ∙ read.2) said.1 in (
      so_far.0 ++ turn ∷ [],
      omega (arith, so_far.1, length-append so_far.0 (turn ∷ [])),
      talk_on g.P.Port.gives c.args.limit _ _ _ so_far.0 reader.held hands.0 c.next_line.new.self.held turn
          so_far.2 hands.1 read.1 answered (sym said.2.0 ∙ ap Ok c.if-not-branch.false) said.2.1
          c.in-Ok-true.ensures.counted,
      c.next_line.ensures.limit ∙ so_far.3,
    )
