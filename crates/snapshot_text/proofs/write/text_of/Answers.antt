use Rattle.std.proofs.Common.{◌^◌, ◌<◌, ◌∙◌, map, length, arith}
use Rattle.std.proofs.lemmas.Grind.{common_steps}
use Rattle.std.proofs.lemmas.List.{length-map}
use Rattle.snapshot_text.proofs.Sorted.{whole_text, sound_more, all_sound}
use Rattle.snapshot_text.proofs.write.text_of.Goals as goal

pub returns-clause-text : goal.returns-clause-text
returns-clause-text c =
    whole_text (λ op. op.now) c.args.ops.now c.loop-op.op-index c.loop-op.text.items c.as_bytes.result.now c.extend_from_slice-2.new.self.items
    c.loop-op-test.false c.loop-op.invariant.written
    (c.as_bytes.ensures.value ∙ c.in_ok-end.ensures.ok) c.in_ok-extend_from_slice-2.ensures.items

pub returns-clause-says : goal.returns-clause-says
returns-clause-says c =
    let ops = c.args.ops.now in
    let few : length ops < 2 ^ 64 = omega arith in
    c.snapshots_say_their_operations.ensures (map (λ op. op.now) ops)
    (all_sound (λ op. op.now) ops c.loop-op.op-index c.loop-op-test.false c.loop-op.invariant.sound)
    (omega (arith, length-map ops (λ op. op.now), few))

pub loop-op-preserved : goal.loop-op-preserved
loop-op-preserved c = record {
  written = grind (arith, common_steps);
  sound = sound_more (λ op. op.now) c.args.ops.now c.loop-op.op-index c.op-item.result c.loop-op-test.true c.op-item.is c.stamp.ensures.numbered c.body.ensures.good c.loop-op.invariant.sound;
}
