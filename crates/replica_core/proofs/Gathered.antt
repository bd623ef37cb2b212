-- How the effects of arrivals are joined in another order.
use Rattle.std.proofs.Common.{◌≡◌, ◌∙◌, List, [], ◌∷◌, ◌++◌, sym, ap, append_assoc}
use Rattle.std.specs.List.Sorted.{IsPermutation}
use Rattle.std.proofs.lemmas.List.Sorted.{IsPermutation-sym, IsPermutation-append_right, Contains-permutation}
use Rattle.review_ops.specs.Operation.{Operation}
use Rattle.state_core.specs.State.{State, state_of, with_effect}
use Rattle.state_core.specs.StateLaws.{state_of-push, state_of-same}

pub state_of-permuted : (before xs ys : List Operation) → IsPermutation xs ys
    → state_of (before ++ xs) ≡ state_of (before ++ ys)
state_of-permuted before xs ys same =
    let both = IsPermutation-append_right before xs ys same in
    let back = IsPermutation-sym (before ++ xs) (before ++ ys) both in
    state_of-same (before ++ xs) (before ++ ys)
    (λ op. Contains-permutation (before ++ xs) (before ++ ys) op both)
    (λ op. Contains-permutation (before ++ ys) (before ++ xs) op back)

-- one more effect is joined
pub state_of-more : (before done : List Operation) (op : Operation) (state after : State)
    → state ≡ state_of (before ++ done) → after ≡ with_effect state op → after ≡ state_of (before ++ (done ++ op ∷ []))
state_of-more before done op state after is came =
    came ∙ ap (λ s. with_effect s op) is ∙ sym (state_of-push (before ++ done) op)
    ∙ ap state_of (append_assoc before done (op ∷ []))
