use Rattle.std.proofs.Common.{◌≤◌, ◌<◌, length, length-append, ap, ◌∙◌, arith, subst}
use Rattle.std.proofs.lemmas.List.{take_all}
use Rattle.snapshot_text.specs.Sound.{AreSoundOperations}
use Rattle.std.proofs.lemmas.Grind.{common_steps}
use Rattle.line_reader.specs.Lines.{line_limit}
use Rattle.op_text.specs.Text.{operation_text}
use Rattle.site_journal.specs.Text.{AreShort}
use Rattle.site_journal.proofs.Keeping.{long_among, sound_next, short_next}
use Rattle.site_journal.proofs.journal.lines_of.Goals as goal

pub loop-op-preserved : goal.loop-op-preserved
loop-op-preserved c =
    let text = operation_text c.op-item.result in
    let grown = ap length (c.as_slice.ensures.value ∙ c.in_ok-append_op.ensures.ok) in
    let began = ap length c.as_slice-start.ensures.value in
    let short : length text ≤ line_limit = omega (arith, c.if-as_slice-start-gt-LINE_LIMIT.false, grown, began, length-append c.loop-op.lines.items text) in record {
      written = grind (arith, common_steps);
      sound = sound_next c.args.ops.now c.loop-op.op-index c.op-item.result c.loop-op-test.true c.op-item.is c.stamp.ensures.numbered c.body.ensures.good c.loop-op.invariant.sound;
      short = short_next c.args.ops.now c.loop-op.op-index c.op-item.result c.loop-op-test.true c.op-item.is short c.loop-op.invariant.short;
    }

pub returns-clause-sound : goal.returns-clause-sound
returns-clause-sound c =
    subst AreSoundOperations (take_all c.loop-op.op-index c.args.ops.now c.loop-op-test.false) c.loop-op.invariant.sound

pub returns-clause-short : goal.returns-clause-short
returns-clause-short c =
    subst AreShort (take_all c.loop-op.op-index c.args.ops.now c.loop-op-test.false) c.loop-op.invariant.short

pub returns-then-as_slice-start-gt-LINE_LIMIT-clause-long : goal.returns-then-as_slice-start-gt-LINE_LIMIT-clause-long
returns-then-as_slice-start-gt-LINE_LIMIT-clause-long c =
    let text = operation_text c.op-item.result in
    let grown = ap length (c.as_slice.ensures.value ∙ c.in_ok-append_op.ensures.ok) in
    let began = ap length c.as_slice-start.ensures.value in
    let long : line_limit < length text = omega (arith, c.if-as_slice-start-gt-LINE_LIMIT.true, grown, began, length-append c.loop-op.lines.items text) in
    λ _. long_among c.args.ops.now c.loop-op.op-index c.op-item.result c.loop-op-test.true c.op-item.is long
