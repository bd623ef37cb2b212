use Rattle.std.proofs.Common.{◌∙◌}
use Rattle.event_feed.proofs.LinesRead.{handed, none_read, too_long}
use Rattle.event_feed.proofs.Moving.{line_move, long_move}
use Rattle.event_feed.specs.Ends.{Begin}
use Rattle.event_feed.proofs.feed.read_line.Goals as goal

pub returns-in-Ok-true-clause-moves : goal.returns-in-Ok-true-clause-moves
returns-in-Ok-true-clause-moves g c =
    let hands = c.in-Ok-true.ensures.hands in
    let line = handed c.args.reader.now c.next_line.new.self hands.0 c.in-Ok-true.field-0 c.in-Ok-true.field-0-test hands.2 in
    line_move g.T.Taker.takes c.args.input c.args.projects.now c.args.reader.now.limit c.args.number _ _ hands.0 line.0 c.line.result.now
    hands.1 c.in-Ok-true.ensures.counted line.1 (c.line.ensures ∙ line.2) c.take_line.result c.take_line.ensures

pub returns-in-Err-TooLong-clause-moves : goal.returns-in-Err-TooLong-clause-moves
returns-in-Err-TooLong-clause-moves g c =
    let met : Begin = record {
      left = g.S.Source.left c.next_line.new.source;
      failed = g.S.Source.failed c.next_line.new.source;
      held = c.next_line.new.self.held;
    } in
    let hands = c.in-Err-TooLong.ensures.hands in
    let long = too_long c.args.reader.now c.next_line.new.self hands.0 c.in-Err-TooLong.field-0 c.in-Err-TooLong.field-0-is hands.2 in
    long_move g.T.Taker.takes c.args.input c.args.projects.now c.args.reader.now.limit c.args.number _ _ met hands.0 hands.1
    (none_read _ _ c.in-Err-TooLong.field-0 c.in-Err-TooLong.field-0-is c.in-Err-TooLong.ensures.counted)
    long.0 long.1 c.pass_line.ensures.known c.pass_line.result c.pass_line.ensures.passes
