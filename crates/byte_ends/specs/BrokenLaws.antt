-- When the one failure of a broken end comes, over the calls that went before: moves are how many bytes each moved.
use Rattle.std.specs.Prelude.{◌≡◌, ℕ, ◌+◌, ◌-◌, ◌<◌, ◌↔◌, ◌==◌, ◌&&◌, nat_lt, Bool, true, false, List, [], ◌∷◌, length}
use Rattle.std.specs.Prelude.{fold, sum}
use Rattle.std.proofs.Common.{refl, ap, ◌∙◌, arith}
use Rattle.std.proofs.lemmas.Bool.{and_from, and_parts, eqb-true, eq-eqb, ltb-true, lt-ltb}
use Rattle.std.proofs.lemmas.List.Sums.{sum_by-cons}
use Rattle.byte_ends.specs.declared.breaking.Due.TheVariants.{AtCall, BeforeByte, Past}
use Rattle.byte_ends.specs.Broken.{is_due, due_after}

after_calls : (n : ℕ) (moves : List ℕ) → fold due_after (AtCall n) moves ≡ AtCall (n - length moves)
after_calls n [] = ap AtCall (omega arith)
after_calls n (m ∷ moves) = after_calls (n - 1) moves ∙ ap AtCall (omega arith)

after_bytes : (n : ℕ) (moves : List ℕ) → fold due_after (BeforeByte n) moves ≡ BeforeByte (n - sum moves)
after_bytes n [] = ap BeforeByte (omega arith)
after_bytes n (m ∷ moves) = after_bytes (n - m) moves ∙ ap BeforeByte (omega (arith, sum_by-cons (λ x. x) m moves))

-- it comes at the nth call
pub due_at_call : (n : ℕ) (moves : List ℕ) (len : ℕ)
    → (is_due (fold due_after (AtCall n) moves) len ≡ true) ↔ (length moves + 1 ≡ n)
due_at_call n moves len = rw (after_calls n moves)
    (λ e. let is = eqb-true (n - length moves) 1 e in omega arith, λ e. eq-eqb (n - length moves) 1 (omega arith))

-- it comes at the first call on some bytes after n - 1 bytes were moved
pub due_before_byte : (n : ℕ) (moves : List ℕ) (len : ℕ)
    → (is_due (fold due_after (BeforeByte n) moves) len ≡ true) ↔ ((sum moves + 1 ≡ n) × (0 < len))
due_before_byte n moves len =
    rw (after_bytes n moves) (
      λ e.
          let both = and_parts (n - sum moves == 1) (nat_lt 0 len) e in
          let is = eqb-true (n - sum moves) 1 both.0 in
          (omega arith, ltb-true 0 len both.1),
      λ e.
          let is = eq-eqb (n - sum moves) 1 (let here = e.0 in omega arith) in
          and_from (n - sum moves == 1) (nat_lt 0 len) is (lt-ltb 0 len e.1),
    )

-- no other comes
pub past_is_over : (moves : List ℕ) (len : ℕ) → is_due (fold due_after Past moves) len ≡ false
past_is_over [] len = refl
past_is_over (m ∷ moves) len = past_is_over moves len
