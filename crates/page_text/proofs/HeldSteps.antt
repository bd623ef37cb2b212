-- Approvals one after another.
use Rattle.std.proofs.Common.{◌≡◌, ◌∙◌, ◌+◌, ◌-◌, ◌<◌, ℕ, suc, List, [], ◌∷◌, ◌++◌, ap, sym, append_assoc, arith}
use Rattle.gate_rules.specs.declared.condition.Side.{Side}
use Rattle.page_text.specs.declared.held.Held.{Held}
use Rattle.page_text.specs.declared.held.Held.TheVariants.{Approval}
use Rattle.page_text.specs.Metrics.{held_from}

pub approval_more : (side : Side) (place count : ℕ) (old new whole : List Held) → place < count
    → new ≡ old ++ Approval side (place + 1) ∷ []
    → old ++ held_from side (place + 1) (count - place) ≡ whole
    → new ++ held_from side (place + 1 + 1) (count - (place + 1)) ≡ whole
approval_more side place count old new whole inside is so_far =
    let left : count - place ≡ suc (count - (place + 1)) = omega arith in
    let after : suc (place + 1) ≡ place + 1 + 1 = omega arith in
    let rest = held_from side (place + 1 + 1) (count - (place + 1)) in
    ap (λ l. l ++ rest) is ∙ append_assoc old (Approval side (place + 1) ∷ []) rest
    ∙ ap (λ n. old ++ Approval side (place + 1) ∷ held_from side n (count - (place + 1))) (sym after)
    ∙ ap (λ n. old ++ held_from side (place + 1) n) (sym left) ∙ so_far
