use Rattle.std.proofs.Common.{◌≡◌, ◌∷◌, ◌∙◌, ◌+◌, ap, arith, drop, get_or, subst, suc, sym, take}
use Rattle.std.proofs.Math.Seq.{drop-cons}
use Rattle.gate_rules.specs.Place.{end_from}
use Rattle.gate_rules.proofs.Places.{IsWithin, within_after}
use Rattle.gate_rules.proofs.place.place_at.Goals as goal

pub loop-byte-preserved : goal.loop-byte-preserved
loop-byte-preserved c =
    let bytes = take c.args.offset c.args.text.now in
    let index = c.loop-byte.byte-index in
    let step : suc index ≡ index + 1 = omega arith in
    let left : drop index bytes ≡ get_or bytes index 0 ∷ drop (index + 1) bytes = drop-cons bytes index 0 c.loop-byte-test.true ∙ ap (λ n. get_or bytes index 0 ∷ drop n bytes) step in
    let within : IsWithin ((2 + index) + 1) c.after-place.result = subst (IsWithin ((2 + index) + 1)) (sym c.after-place.ensures) (within_after (2 + index) c.loop-byte.place _ (c.loop-byte.invariant.some, c.loop-byte.invariant.few)) in
    record {
      so_far = ap (λ place. end_from place (drop (index + 1) bytes)) c.after-place.ensures
          ∙ sym (ap (end_from c.loop-byte.place) left) ∙ c.loop-byte.invariant.so_far;
      some = within.0;
      few = omega (arith, within.1);
    }
