use Rattle.std.proofs.Common.{◌∙◌, ap, option_map, sym}
use Rattle.gate_check.specs.Ignored.{BeginsLike}
use Rattle.gate_check.proofs.Missed.{like_of, none_more, some_of}
use Rattle.gate_check.proofs.Sought.{not_if, so_if}
use Rattle.gate_check.proofs.ignored.begins_with_base.Goals as goal

pub loop-place-preserved : goal.loop-place-preserved
loop-place-preserved c =
    none_more (λ base. BeginsLike base c.args.value.now) c.args.bases.now c.loop-place.place c.unwrap-base.result.now
    (sym c.get.ensures ∙ ap (option_map (λ text. text.now)) c.unwrap-base.ensures) c.loop-place.invariant
    (not_if (BeginsLike c.unwrap-base.result.now c.args.value.now) c.begins_like.result c.if-begins_like.false
    (like_of c.begins_like.result _ _ _ _ c.as_bytes.ensures.value c.as_bytes-in-loop-place.ensures.value c.begins_like.ensures))

pub returns-then-begins_like : goal.returns-then-begins_like
returns-then-begins_like c =
    some_of (λ base. BeginsLike base c.args.value.now) c.args.bases.now c.loop-place.place c.unwrap-base.result.now
    (sym c.get.ensures ∙ ap (option_map (λ text. text.now)) c.unwrap-base.ensures)
    (so_if (BeginsLike c.unwrap-base.result.now c.args.value.now) c.begins_like.result c.if-begins_like.true
    (like_of c.begins_like.result _ _ _ _ c.as_bytes.ensures.value c.as_bytes-in-loop-place.ensures.value c.begins_like.ensures))
