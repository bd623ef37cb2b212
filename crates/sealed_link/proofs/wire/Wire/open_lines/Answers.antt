use Rattle.sealed_link.proofs.Opens.{opening_next, opening_refused, opening_unheld}
use Rattle.sealed_link.proofs.wire.Wire.open_lines.Goals as goal

pub loop-piece-preserved : goal.loop-piece-preserved
loop-piece-preserved c =
    let ok = c.in-Ok.ensures.ok in
    let cut = c.in-Some.ensures in
    rw ok.3 (opening_next c.args.self.now c.args.came.now c.args.into.now.items c.loop-piece.self c.loop-piece.into.items c.loop-piece.rest.now
    c.loop-piece.invariant c.in-Some.piece.now c.in-Some.after.now ok.0 c.open_line.new.into.items cut.1 c.open_line.ensures.plain ok.1 ok.2)

pub returns-in-Err : goal.returns-in-Err
returns-in-Err c =
    let kept = c.in-Err.ensures.kept in
    let cut = c.in-Some.ensures in
    opening_refused c.args.self.now c.args.came.now c.args.into.now.items c.loop-piece.self c.loop-piece.into.items c.loop-piece.rest.now
    c.loop-piece.invariant c.in-Some.piece.now c.in-Some.after.now c.in-Err.fault c.open_line.new.into.items c.open_line.new.self cut.1
    c.open_line.ensures.plain c.in-Err.ensures.err kept.0 kept.1

pub returns-in-Err-hold : goal.returns-in-Err-hold
returns-in-Err-hold c =
    rw c.in-Err-hold.ensures.kept
    (opening_unheld c.args.self.now c.args.came.now c.args.into.now.items c.loop-piece.self c.loop-piece.into.items c.loop-piece.rest.now
    c.loop-piece.invariant c.in-Err-hold.fault c.hold.ensures.plain c.in-Err-hold.ensures.err)
