use Rattle.std.proofs.Common.{ℕ, List, Err, Bor, map, sym, ap, ◌∙◌, subst}
use Rattle.serde_json.specs.View.{view, members_view}
use Rattle.footer_text.specs.Bases.{AreBases, IsFirstBad, IsBasesAnswer}
use Rattle.gate_rules.specs.Reading.{each, is_text, texts_of}
use Rattle.gate_rules.proofs.Bases.{no_texts, no_bases, has_bases}
use Rattle.gate_rules.proofs.build.bases_of.Goals as goal

pub returns-then-not-are_texts : goal.returns-then-not-are_texts
returns-then-not-are_texts c =
    no_texts (members_view c.args.members.now.entries)
    (view c.in-Some.value.now) c.in-Some.ensures c.in-Some-as_array.items.now.items c.in-Some-as_array.ensures
    (ap (λ vs. each is_text (map view vs)) (sym c.as_slice.ensures.value) ∙ sym c.are_texts.ensures ∙ c.if-not-are_texts.true)

pub returns-in-Ok : goal.returns-in-Ok
returns-in-Ok c =
    let told = ap (map (λ (text : Bor (List ℕ)). text.now)) c.as_slice-3.ensures.value ∙ c.in_ok-texts.ensures ∙ ap (λ vs. texts_of (map view vs)) c.as_slice-2.ensures.value in
    let texts = ap (λ vs. each is_text (map view vs)) (sym c.as_slice.ensures.value) ∙ sym c.are_texts.ensures ∙ c.if-not-are_texts.false in
    has_bases (members_view c.args.members.now.entries)
    (view c.in-Some.value.now) c.in-Some.ensures c.in-Some-as_array.items.now.items c.in-Some-as_array.ensures
    texts c.in-Ok.bases (c.in-Ok.ensures.0 ∙ told) (subst AreBases (sym c.in-Ok.ensures.0) c.in-Ok.ensures.1)

pub returns-in-Err-BadBase : goal.returns-in-Err-BadBase
returns-in-Err-BadBase c =
    let told = ap (map (λ (text : Bor (List ℕ)). text.now)) c.as_slice-3.ensures.value ∙ c.in_ok-texts.ensures ∙ ap (λ vs. texts_of (map view vs)) c.as_slice-2.ensures.value in
    let bad = subst (λ fault. IsBasesAnswer (map (λ (text : Bor (List ℕ)). text.now) c.as_slice-3.result.now) (Err fault)) c.in-Err-BadBase.field-0-is c.in-Err-BadBase.ensures in
    no_bases (members_view c.args.members.now.entries)
    (view c.in-Some.value.now) c.in-Some.ensures c.in-Some-as_array.items.now.items c.in-Some-as_array.ensures
    c.in-Err-BadBase.field-0-0 (subst (λ texts. IsFirstBad texts c.in-Err-BadBase.field-0-0) told bad)
