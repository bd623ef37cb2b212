-- How an operation comes into a journal and a state.
use Rattle.std.proofs.Common.{◌≡◌, ℕ, Bool, true, false, cond, List, [], ◌∷◌, ◌++◌, refl, sym, ap, subst, ◌∙◌}
use Rattle.std.specs.List.{AllByRecursion, IsDistinct}
use Rattle.std.proofs.lemmas.Bool.{or_parts}
use Rattle.review_ops.specs.Operation.{Operation}
use Rattle.std.proofs.Common.{max, take, length, Result, Ok, Err, ◌≤◌, arith, length-append}
use Rattle.std.specs.Prelude.{IfOk, OnErr}
use Rattle.std.proofs.lemmas.List.{map-append, take-append-le}
use Rattle.std.proofs.lemmas.List.Sums.{fold-append}
use Rattle.replica_core.specs.Clock.{greatest, times}
use Rattle.replica_core.specs.Journal.{has, same_operation, AreApart, arrived, taken_of}
use Rattle.replica_core.specs.declared.taken.Taken.{Taken}
use Rattle.replica_core.specs.declared.taken.Taken.TheVariants.{New, Known}
use Rattle.replica_core.specs.RowLine.{RowLine}
use Rattle.replica_core.specs.Lines.{AreLines}
use Rattle.replica_core.specs.Record.{IsKept}
use Rattle.state_core.specs.State.{State, with_effect, state_of}
use Rattle.state_core.specs.StateLaws.{state_of-push}

-- a journal stays a set where what is new comes last
differs_too : (first op : Operation) (journal : List Operation)
    → AllByRecursion (λ other. same_operation first other ≡ false) journal → same_operation first op ≡ false
    → AllByRecursion (λ other. same_operation first other ≡ false) (journal ++ op ∷ [])
differs_too first op [] all e = (e, tt)
differs_too first op (other ∷ journal) all e = (all.0, differs_too first op journal all.1 e)

pub AreApart-nil : AreApart []
unfolding IsDistinct
AreApart-nil = tt

pub AreApart-push : (journal : List Operation) (op : Operation) → has journal op ≡ false → AreApart journal
    → AreApart (journal ++ op ∷ [])
unfolding IsDistinct
AreApart-push [] op new apart = (tt, tt)
AreApart-push (first ∷ journal) op new apart =
    let parts = or_parts (same_operation first op) (has journal op) new in
    (differs_too first op journal apart.0 parts.0, AreApart-push journal op parts.1 apart.1)

-- ---- what a replica keeps, once an operation has come

new_of : (b : Bool) (taken : Taken) → taken ≡ taken_of b → taken ≡ New → b ≡ false
new_of true taken is new = let e : Known ≡ New = sym is ∙ new in cc
new_of false taken is new = refl

latest-push : (journal : List Operation) (op : Operation)
    → greatest (times (journal ++ op ∷ [])) ≡ max (greatest (times journal)) op.stamp.time
latest-push journal op = ap greatest (map-append (λ (o : Operation). o.stamp.time) journal (op ∷ []))
    ∙ fold-append max 0 (times journal) (op.stamp.time ∷ [])

-- the set and the time of a journal that is the same
pub kept_same : (journal after : List Operation) (lines after_lines : List RowLine) (latest : ℕ) → after ≡ journal
    → AreLines after after_lines → IsKept journal lines latest → IsKept after after_lines latest
kept_same journal after lines after_lines latest same are kept = record {
  apart = subst AreApart (sym same) kept.apart;
  lines = are;
  latest = kept.latest ∙ ap (λ j. greatest (times j)) (sym same);
}

module _ (journal after : List Operation) (lines after_lines : List RowLine) (latest : ℕ) (op : Operation)
    (taken : Taken) (is : taken ≡ taken_of (has journal op)) (came : after ≡ arrived journal op)
    (are : AreLines after after_lines) (kept : IsKept journal lines latest) where
  pub kept_new : taken ≡ New → (after_latest : ℕ) → after_latest ≡ max latest op.stamp.time
      → IsKept after after_lines after_latest
  kept_new e after_latest latest_is =
      let new = new_of (has journal op) taken is e in
      let grown : after ≡ journal ++ op ∷ [] = came ∙ ap (λ t. cond t journal (journal ++ op ∷ [])) new in
      record {
        apart = subst AreApart (sym grown) (AreApart-push journal op new kept.apart);
        lines = are;
        latest = latest_is ∙ ap (λ n. max n op.stamp.time) kept.latest ∙ sym (latest-push journal op)
            ∙ ap (λ j. greatest (times j)) (sym grown);
      }

-- ---- the state, once an operation has come or has been refused
grown_state : (known : Bool) (journal : List Operation) (op : Operation) (state : State) → state ≡ state_of journal
    → cond known state (with_effect state op) ≡ state_of (cond known journal (journal ++ op ∷ []))
grown_state true journal op state is = is
grown_state false journal op state is = ap (λ s. with_effect s op) is ∙ sym (state_of-push journal op)

pub state_after : {E : Type 0} (r : Result Taken E) (journal after : List Operation) (state after_state : State)
    (op : Operation) → state ≡ state_of journal
    → IfOk r (λ taken. (taken ≡ taken_of (has journal op)) × (after ≡ arrived journal op)
    × (after_state ≡ cond (has journal op) state (with_effect state op)))
    → OnErr r ((after ≡ journal) × (after_state ≡ state)) → after_state ≡ state_of after
state_after (Ok taken) journal after state after_state op is ok err =
    ok.2 ∙ grown_state (has journal op) journal op state is ∙ ap state_of (sym ok.1)
state_after (Err e) journal after state after_state op is ok err = err.1 ∙ is ∙ ap state_of (sym err.0)

-- of a journal that has grown the first arrivals are the same
first_arrivals : (known : Bool) (journal : List Operation) (op : Operation) (n : ℕ) → n ≤ length journal
    → take n (cond known journal (journal ++ op ∷ [])) ≡ take n journal
first_arrivals true journal op n low = refl
first_arrivals false journal op n low = take-append-le n journal (op ∷ []) low

no_fewer : (known : Bool) (journal : List Operation) (op : Operation)
    → length journal ≤ length (cond known journal (journal ++ op ∷ []))
no_fewer true journal op = omega arith
no_fewer false journal op = omega (arith, length-append journal (op ∷ []))

pub record IsFirstOf (n : ℕ) (journal after : List Operation) : Type 0 where
  pub first : take n after ≡ take n journal
  pub within : n ≤ length after

pub still_first : {E : Type 0} (P : Type 0) (Q : Taken → Type 0) (r : Result Taken E) (journal after : List Operation)
    (op : Operation) (n : ℕ) → n ≤ length journal
    → IfOk r (λ taken. (taken ≡ taken_of (has journal op)) × (after ≡ arrived journal op) × Q taken)
    → OnErr r ((after ≡ journal) × P) → IsFirstOf n journal after
still_first P Q (Ok taken) journal after op n low ok err = record {
  first = ap (take n) ok.1 ∙ first_arrivals (has journal op) journal op n low;
  within = let more = no_fewer (has journal op) journal op in omega (arith, low, more, ap length ok.1);
}
still_first P Q (Err e) journal after op n low ok err = record {
  first = ap (take n) err.0;
  within = omega (arith, low, ap length err.0);
}
