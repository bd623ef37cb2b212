-- How the effect of an operation comes into a state: into the change that is there, or as a new one.
use Rattle.std.proofs.Common.{◌≡◌, ℕ, true, false, cond, Some, None, refl, sym, ap, ◌∙◌}
use Rattle.std.specs.Ordering.{nat_cmp, eq_by_cmp}
use Rattle.std.specs.FinMap.{get, insert, get-insert}
use Rattle.lattice_core.specs.Exact.{same_by_test}
use Rattle.lattice_core.specs.Keep.{numbers_exact}
use Rattle.lattice_core.specs.JoinMap.{joined_to, same_at_each_key}
use Rattle.review_ops.specs.Deed.{change_of}
use Rattle.review_ops.specs.Operation.{Operation}
use Rattle.change_core.specs.Change.{Change, no_change, change_joined, effect_of}
use Rattle.change_core.specs.StateLaws.{no_change-joined}
use Rattle.state_core.specs.State.{State, with_effect}

-- the change that is there is joined in place
pub effect_in_place : (old shown : State) (op : Operation) (number : ℕ) (was new : Change) → number ≡ change_of op.deed
    → Some was ≡ get old number → new ≡ change_joined was (effect_of op) → shown ≡ insert old number new
    → shown ≡ with_effect old op
effect_in_place old shown op number was new number_is found new_is shown_is =
    shown_is ∙ ap (insert old number) new_is
    ∙ ap (λ f. insert old number (joined_to change_joined f (effect_of op))) found
    ∙ ap (λ n. insert old n (joined_to change_joined (get old n) (effect_of op))) number_is

-- a change that isn't there is added
pub effect_added : (old shown : State) (op : Operation) (number : ℕ) (new : Change) → number ≡ change_of op.deed
    → None ≡ get old number → new ≡ change_joined no_change (effect_of op) → shown ≡ insert old number new
    → shown ≡ with_effect old op
effect_added old shown op number new number_is found new_is shown_is =
    shown_is ∙ ap (insert old number) (new_is ∙ no_change-joined (effect_of op))
    ∙ ap (λ f. insert old number (joined_to change_joined f (effect_of op))) found
    ∙ ap (λ n. insert old n (joined_to change_joined (get old n) (effect_of op))) number_is

-- to put back what was there changes nothing
pub put_back : (old : State) (number : ℕ) (was : Change) → Some was ≡ get old number → insert old number was ≡ old
put_back old number was found = same_at_each_key numbers_exact (insert old number was) old (λ q.
    get-insert numbers_exact.total old number was q
    ∙ elim (eq_by_cmp nat_cmp q number) as (λ t. eq_by_cmp nat_cmp q number ≡ t → cond t (Some was) (get old q) ≡ get old q) [
      | true ↦ λ e. found ∙ ap (get old) (sym (same_by_test numbers_exact q number e))
      | false ↦ λ e. refl
    ] refl)

pub unchanged_in_place : (old shown : State) (number : ℕ) (was new : Change) → Some was ≡ get old number → new ≡ was
    → shown ≡ insert old number new → shown ≡ old
unchanged_in_place old shown number was new found new_is shown_is =
    shown_is ∙ ap (insert old number) new_is ∙ put_back old number was found
