-- The votes on a patch set stand together, from its first slot on.
use Rattle.std.proofs.Common.{◌≡◌, ◌≤◌, ◌<◌, ℕ, ℤ, true, false, cond, T, List, [], ◌∷◌, refl, sym, ap, ◌∙◌, arith}
use Rattle.std.specs.Prelude.{◌==◌, ◌&&◌, map}
use Rattle.std.specs.declared.cmp.Ordering.{Ordering}
use Rattle.std.specs.declared.cmp.Ordering.TheVariants.{Less, Equal, Greater}
use Rattle.std.specs.declared.ops.Bound.TheVariants.{Included, Unbounded}
use Rattle.std.specs.BTreeMap.Range.{entries_between}
use Rattle.std.specs.Cmp.{tied_itself}
use Rattle.std.specs.Cmp.Lexicographic.{slice_cmp}
use Rattle.std.specs.FinMap.Entries.{below_all, is_sorted}
use Rattle.std.specs.List.{filter, AllByRecursion}
use Rattle.std.specs.Ordering.{nat_cmp, is_le, is_lt, ordering_then, MatchOrdering}
use Rattle.std.proofs.lemmas.Bool.{eqb-true, false≢true}
use Rattle.std.proofs.lemmas.Cmp.{ranked}
use Rattle.lattice_core.specs.Keep.{numbers_exact}
use Rattle.lattice_core.specs.Tests.{first_of_both, second_of_both}
use Rattle.review_ops.specs.Timestamp.{Timestamp}
use Rattle.change_core.specs.Slots.{Slot, slot_cmp}
use Rattle.change_core.specs.Votes.{vote_at, votes_among, first_votes, first_slot}

abbrev Registers : Type 0
Registers = List (Slot × (Timestamp × ℤ))

-- no label and no voter is less than the empty one
least : (label voter : List ℕ) → is_le (ordering_then (slice_cmp nat_cmp [] label) (slice_cmp nat_cmp [] voter)) ≡ true
least [] [] = refl
least [] (v ∷ voter) = refl
least (l ∷ label) voter = refl

up_to : (a b : ℕ) (r then : Ordering) → MatchOrdering r (a < b) (a ≡ b) (b < a) → is_le (ordering_then r then) ≡ true
    → a ≤ b
up_to a b Less then h t = omega arith
up_to a b Equal then h t = omega arith
up_to a b Greater then h t = cc

below : (a b : ℕ) (r then : Ordering) → MatchOrdering r (a < b) (a ≡ b) (b < a) → T (is_lt (ordering_then r then))
    → a ≤ b
below a b Less then h t = omega arith
below a b Equal then h t = omega arith
below a b Greater then h t = absurd t

above : (m n : ℕ) → (m == n) ≡ false → n ≤ m → n < m
above m n e h = grind (arith)

-- ---- what the order of slots says of their patch sets
module _ (set : ℕ) (slot : Slot) where
  from_first : slot.set ≡ set → is_le (slot_cmp (first_slot set) slot) ≡ true
  from_first same =
      ap (λ r. is_le (ordering_then r (ordering_then (slice_cmp nat_cmp [] slot.label) (slice_cmp nat_cmp [] slot.voter)))) (ap (nat_cmp set) same ∙ tied_itself numbers_exact.total set)
      ∙ least slot.label slot.voter

  not_before : is_le (slot_cmp (first_slot set) slot) ≡ true → set ≤ slot.set
  not_before from =
      up_to set slot.set (nat_cmp set slot.set) _ (ranked set slot.set (nat_cmp set slot.set) refl) from

later_sets : (set : ℕ) (slot : Slot) → set < slot.set → (es : Registers) → T (below_all slot_cmp slot es)
    → AllByRecursion (λ e. set < e.0.set) es
later_sets set slot after [] h = tt
later_sets set slot after (e ∷ es) h =
    let first = below slot.set e.0.set (nat_cmp slot.set e.0.set) _ (ranked slot.set e.0.set (nat_cmp slot.set e.0.set) refl) (first_of_both (is_lt (slot_cmp slot e.0)) (below_all slot_cmp slot es) h) in
    (omega (arith, after, first), later_sets set slot after es (second_of_both (is_lt (slot_cmp slot e.0)) (below_all slot_cmp slot es) h))

not_same : (m n : ℕ) → n < m → (m == n) ≡ false
not_same m n h = grind (arith)

none_later : (set : ℕ) (es : Registers) → AllByRecursion (λ e. set < e.0.set) es → votes_among set es ≡ []
none_later set [] after = refl
none_later set (e ∷ es) after =
    ap (λ t. map vote_at (cond t (e ∷ filter (λ register. register.0.set == set) es) (filter (λ register. register.0.set == set) es)))
    (not_same e.0.set set after.0)
    ∙ none_later set es after.1

-- so the votes on a patch set are those that the registers from its first slot on begin with
pub first_votes_are : (set : ℕ) (es : Registers) → T (is_sorted slot_cmp es)
    → first_votes set (entries_between slot_cmp (Included (first_slot set)) Unbounded es) ≡ votes_among set es
first_votes_are set [] h = refl
first_votes_are set (e ∷ es) h =
    let kept = entries_between slot_cmp (Included (first_slot set)) Unbounded es in
    let those : Registers = filter (λ register. register.0.set == set) es in
    let later = first_votes_are set es (second_of_both (below_all slot_cmp e.0 es) (is_sorted slot_cmp es) h) in
    elim (is_le (slot_cmp (first_slot set) e.0)) as (λ t. is_le (slot_cmp (first_slot set) e.0) ≡ t → first_votes set (cond (t && true) (e ∷ kept) kept) ≡ map vote_at (cond (e.0.set == set) (e ∷ those) those)) [
      | true ↦ λ from. elim (e.0.set == set) as (λ s. (e.0.set == set) ≡ s → cond s (vote_at e ∷ first_votes set kept) [] ≡ map vote_at (cond s (e ∷ those) those)) [
        | true ↦ λ same. ap (λ l. vote_at e ∷ l) later
        | false ↦ λ other. sym (none_later set es (later_sets set e.0 (above e.0.set set other (not_before set e.0 from)) es (first_of_both (below_all slot_cmp e.0 es) (is_sorted slot_cmp es) h)))
      ] refl
      | false ↦ λ early. elim (e.0.set == set) as (λ s. (e.0.set == set) ≡ s → first_votes set kept ≡ map vote_at (cond s (e ∷ those) those)) [
        | true ↦ λ same. absurd (false≢true (sym early ∙ from_first set e.0 (eqb-true e.0.set set same)))
        | false ↦ λ other. later
      ] refl
    ] refl
