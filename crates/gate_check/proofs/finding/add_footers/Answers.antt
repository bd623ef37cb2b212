use Rattle.std.proofs.Common.{[], ◌∷◌, ◌++◌, ◌∙◌, ap, append_assoc, map, string_bytes, sym}
use Rattle.std.specs.Map.Iter.{deref}
use Rattle.std.proofs.lemmas.Map.Iter.{rest_more}
use Rattle.gate_check.specs.Warnings.{footer_warning}
use Rattle.gate_check.proofs.finding.add_footers.Goals as goal

pub loop-value-preserved : goal.loop-value-preserved
loop-value-preserved c =
    let first = rest_more deref _ _ _ _ c.in-Some.is c.next.ensures.steps in
    let before = c.loop-value.found.items in
    let later = map footer_warning (map string_bytes c.next.new.self) in
    ap (λ l. l ++ later) (c.in_ok-add_footer.ensures ∙ ap (λ value. before ++ footer_warning value ∷ []) c.as_str.ensures.value)
    ∙ append_assoc before (footer_warning (string_bytes c.in-Some.value.now) ∷ []) later
    ∙ ap (λ l. before ++ map footer_warning (map string_bytes l)) (sym first) ∙ c.loop-value.invariant
