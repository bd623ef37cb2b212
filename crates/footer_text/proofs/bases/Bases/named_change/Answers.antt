use Rattle.std.proofs.Common.{◌≡◌, ◌<◌, ◌≤◌, [], length, map, get_or, string_bytes, sym, ap, ◌∙◌, subst}
use Rattle.std.proofs.lemmas.List.{get_or-map, length-map}
use Rattle.footer_text.specs.Readings.{NamesChange}
use Rattle.footer_text.proofs.Names.{names_here, none_more, none_named}
use Rattle.footer_text.proofs.bases.Bases.named_change.Goals as goal

pub returns-in-Some : goal.returns-in-Some
returns-in-Some g c =
    let items = c.as_slice-texts.result.now in
    let bases = map string_bytes items in
    let inside : c.loop-base.base-index < length bases = rw length-map c.loop-base-test.true in
    let here : get_or bases c.loop-base.base-index [] ≡ c.as_str.result.now =
    get_or-map string_bytes items c.loop-base.base-index c.base-item.result [] c.loop-base-test.true
    ∙ ap string_bytes (sym c.base-item.is) ∙ sym c.as_str.ensures.value in
    let whole : bases ≡ c.args.self.now = ap (map string_bytes) c.as_slice-texts.ensures.value ∙ c.self.view_is in
    subst (λ b. NamesChange b c.args.value.now c.in-Some.change) whole
    (names_here bases _ _ c.loop-base.invariant inside _ here _ c.in-Some.ensures)

pub loop-base-preserved : goal.loop-base-preserved
loop-base-preserved g c =
    let items = c.as_slice-texts.result.now in
    let bases = map string_bytes items in
    let inside : c.loop-base.base-index < length bases = rw length-map c.loop-base-test.true in
    let here : get_or bases c.loop-base.base-index [] ≡ c.as_str.result.now =
    get_or-map string_bytes items c.loop-base.base-index c.base-item.result [] c.loop-base-test.true
    ∙ ap string_bytes (sym c.base-item.is) ∙ sym c.as_str.ensures.value in
    none_more bases _ _ c.loop-base.invariant inside _ here c.in_default.ensures

pub returns : goal.returns
returns g c =
    let bases = map string_bytes c.as_slice-texts.result.now in
    let whole : bases ≡ c.args.self.now = ap (map string_bytes) c.as_slice-texts.ensures.value ∙ c.self.view_is in
    let all : length bases ≤ c.loop-base.base-index = rw length-map c.loop-base-test.false in
    λ change n. none_named bases _ _ c.loop-base.invariant all change
    (subst (λ b. NamesChange b c.args.value.now change) (sym whole) n)
