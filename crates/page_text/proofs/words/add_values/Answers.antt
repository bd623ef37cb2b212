use Rattle.std.proofs.Common.{◌≡◌, ◌∙◌, ◌++◌, ℤ, pos, [], ap, append-nil, codes, get_or, refl, rules, subst}
use Rattle.std.specs.Fmt.{signed_decimal}
use Rattle.std.specs.Int.{w8, w64}
use Rattle.std.specs.Prelude.{FitsSigned}
use Rattle.std.proofs.lemmas.Int.{to_z-of_z}
use Rattle.markup_text.specs.Growing.{Adds}
use Rattle.page_text.specs.Wanted.{values_html}
use Rattle.page_text.proofs.Wanting.{all_said, nothing_said, one_said}
use Rattle.page_text.proofs.words.add_values.Goals as goal

pub loop-value-init : goal.loop-value-init
loop-value-init c = record {
  said = nothing_said signed_decimal (codes " ") (codes " or ") c.args.values.now c.args.page.now;
  text = search rules;
}

pub loop-value-preserved : goal.loop-value-preserved
loop-value-preserved c =
    let value : ℤ = get_or c.args.values.now c.loop-value.value-index (pos 0) in
    let fits : FitsSigned w8 value = search rules in
    let same : c.from.result ≡ value = c.from.ensures ∙ to_z-of_z w8 value fits in
    let wide : FitsSigned w64 c.from.result = search rules in
    let added = subst (λ (n : ℤ). Adds (c.loop-value.before.now ++ (signed_decimal n ++ [])) c.loop-value.page c.add.new.self) (to_z-of_z w64 c.from.result wide) c.add.ensures in
    record {
      said = one_said signed_decimal (codes " or ") c.args.values.now c.loop-value.value-index (pos 0) value c.loop-value.before.now
          (values_html c.args.values.now) (c.loop-value.before.now ++ (signed_decimal c.from.result ++ [])) c.args.page.now c.loop-value.page
          c.add.new.self c.loop-value-test.true refl c.loop-value.invariant.said
          (ap (λ t. c.loop-value.before.now ++ t) (append-nil (signed_decimal c.from.result) ∙ ap signed_decimal same)) added;
      text = search rules;
    }

pub returns : goal.returns
returns c =
    all_said signed_decimal (codes " or ") c.args.values.now c.loop-value.value-index c.loop-value.before.now (values_html c.args.values.now)
    c.args.page.now c.loop-value.page c.loop-value-test.false c.loop-value.invariant.said
