-- The first patch set of each run, over registers in the order of their slots, are the voted patch sets.
use Rattle.std.proofs.Common.{◌≡◌, ◌==◌, ◌⊎◌, inl, inr, ℕ, ℤ, ◌≤◌, ◌<◌, true, false, cond, T, List, [], ◌∷◌, ◌∙◌}
use Rattle.std.proofs.Common.{Option, None, Some, is_some, IsSome, Contains, refl, sym, ap, subst, arith}
use Rattle.std.specs.declared.cmp.Ordering.{Ordering}
use Rattle.std.specs.declared.cmp.Ordering.TheVariants.{Less, Equal, Greater}
use Rattle.std.specs.Ordering.{nat_cmp, is_lt, ordering_then, MatchOrdering}
use Rattle.std.specs.List.{AllByRecursion}
use Rattle.std.specs.List.Sorted.{IsStrictlySortedBy}
use Rattle.std.specs.FinMap as finite
use Rattle.std.specs.FinMap.Entries.{below_all, is_sorted}
use Rattle.std.proofs.lemmas.Cmp.{ranked}
use Rattle.std.proofs.lemmas.Map.Keys.{IsStrictlyIncreasing-from_sorted}
use Rattle.lattice_core.specs.Tests.{first_of_both, second_of_both}
use Rattle.lattice_core.specs.MemberLaws.{Contains-cons_cases, Contains-first, Contains-later}
use Rattle.lattice_core.specs.EntryLaws.{some_of}
use Rattle.lattice_core.specs.JoinMap.{AllByRecursion-entries}
use Rattle.review_ops.specs.Timestamp.{Timestamp}
use Rattle.change_core.specs.Slots.{Slot, slot_cmp, slots_exact}
use Rattle.change_core.specs.Change.{Change}
use Rattle.change_core.specs.Votes.{AreVotedSets, sets_among, first_of_each}

equal_numbers : (a b : ℕ) → (a == b) ≡ true → a ≡ b
equal_numbers a b e = grind (arith)

-- a first one is one
was_there : (last : Option ℕ) (ns : List ℕ) (n : ℕ) → Contains (first_of_each last ns) n → Contains ns n
was_there last [] n h = h
was_there None (m ∷ ns) n h = elim (Contains-cons_cases m _ n h) [
  | inl same ↦ subst (Contains (m ∷ ns)) same (Contains-first m ns)
  | inr rest ↦ Contains-later m ns n (was_there (Some m) ns n rest)
]
was_there (Some last) (m ∷ ns) n h =
    elim (m == last) as (λ t. Contains (cond t (first_of_each (Some last) ns) (m ∷ first_of_each (Some m) ns)) n → Contains (m ∷ ns) n) [
      | true ↦ λ rest. Contains-later m ns n (was_there (Some last) ns n rest)
      | false ↦ λ found. elim (Contains-cons_cases m _ n found) [
        | inl same ↦ subst (Contains (m ∷ ns)) same (Contains-first m ns)
        | inr rest ↦ Contains-later m ns n (was_there (Some m) ns n rest)
      ]
    ] h

-- each one has its first one, but where it is the last before
has_first : (last : Option ℕ) (ns : List ℕ) (n : ℕ) → Contains ns n
    → (last ≡ Some n) ⊎ Contains (first_of_each last ns) n
has_first last [] n h = inr h
has_first None (m ∷ ns) n h = elim (Contains-cons_cases m ns n h) [
  | inl same ↦ inr (subst (Contains (m ∷ first_of_each (Some m) ns)) same (Contains-first m _))
  | inr rest ↦ elim (has_first (Some m) ns n rest) [
    | inl same ↦ let is : m ≡ n = cc in inr (subst (Contains (m ∷ first_of_each (Some m) ns)) is (Contains-first m _))
    | inr found ↦ inr (Contains-later m _ n found)
  ]
]
has_first (Some last) (m ∷ ns) n h =
    elim (m == last) as (λ t. (m == last) ≡ t → (Some last ≡ Some n) ⊎ Contains (cond t (first_of_each (Some last) ns) (m ∷ first_of_each (Some m) ns)) n) [
      | true ↦ λ t. elim (Contains-cons_cases m ns n h) [
        | inl same ↦ inl (ap Some (sym (equal_numbers m last t) ∙ same))
        | inr rest ↦ has_first (Some last) ns n rest
      ]
      | false ↦ λ t. elim (Contains-cons_cases m ns n h) [
        | inl same ↦ inr (subst (Contains (m ∷ first_of_each (Some m) ns)) same (Contains-first m _))
        | inr rest ↦ elim (has_first (Some m) ns n rest) [
          | inl same ↦ let is : m ≡ n = cc in inr
              (subst (Contains (m ∷ first_of_each (Some m) ns)) is (Contains-first m _))
          | inr found ↦ inr (Contains-later m _ n found)
        ]
      ]
    ] refl

-- ---- order
weaker : {X : Type 0} (P Q : X → Type 0) → ((x : X) → P x → Q x) → (xs : List X) → AllByRecursion P xs
    → AllByRecursion Q xs
weaker P Q step [] all = tt
weaker P Q step (x ∷ xs) all = (step x all.0, weaker P Q step xs all.1)

-- the numbers don't fall
abbrev NeverFalls : List ℕ → Type 0
NeverFalls [] = Unit {0}
NeverFalls (n ∷ ns) = AllByRecursion (λ m. n ≤ m) ns × NeverFalls ns

numbers_less : (a b : ℕ) → a < b → nat_cmp a b ≡ Less
numbers_less a b h = grind (arith)

unequal : (m n : ℕ) → (m == n) ≡ false → n ≤ m → n < m
unequal m n e h = grind (arith)

firsts_rise : (last : ℕ) (ns : List ℕ) → AllByRecursion (λ m. last ≤ m) ns → NeverFalls ns
    → AllByRecursion (λ m. last < m) (first_of_each (Some last) ns)
    × IsStrictlySortedBy nat_cmp (first_of_each (Some last) ns)
unfolding IsStrictlySortedBy
firsts_rise last [] above falls = (tt, tt)
firsts_rise last (m ∷ ns) above falls =
    elim (m == last) as (λ t. (m == last) ≡ t → AllByRecursion (λ k. last < k) (cond t (first_of_each (Some last) ns) (m ∷ first_of_each (Some m) ns)) × IsStrictlySortedBy nat_cmp (cond t (first_of_each (Some last) ns) (m ∷ first_of_each (Some m) ns))) [
      | true ↦ λ t. firsts_rise last ns above.1 falls.1
      | false ↦ λ t.
          let rest = firsts_rise m ns falls.0 falls.1 in
          let here : last < m = unequal m last t above.0 in (
            (here, weaker (λ k. m < k) (λ k. last < k) (λ k h. omega arith) (first_of_each (Some m) ns) rest.0),
            (weaker (λ k. m < k) (λ k. nat_cmp m k ≡ Less) (λ k h. numbers_less m k h) (first_of_each (Some m) ns) rest.0, rest.1),
          )
    ] refl

all_firsts_rise : (ns : List ℕ) → NeverFalls ns → IsStrictlySortedBy nat_cmp (first_of_each None ns)
unfolding IsStrictlySortedBy
all_firsts_rise [] falls = tt
all_firsts_rise (m ∷ ns) falls =
    let rest = firsts_rise m ns falls.0 falls.1 in
    (weaker (λ k. m < k) (λ k. nat_cmp m k ≡ Less) (λ k h. numbers_less m k h) (first_of_each (Some m) ns) rest.0, rest.1)

-- ---- registers in the order of their slots
up_to : (a b : ℕ) (r then : Ordering) → MatchOrdering r (a < b) (a ≡ b) (b < a) → T (is_lt (ordering_then r then))
    → a ≤ b
up_to a b Less then h t = omega arith
up_to a b Equal then h t = omega arith
up_to a b Greater then h t = absurd t

abbrev Registers : Type 0
Registers = List (Slot × (Timestamp × ℤ))

sets_above : (slot : Slot) (es : Registers) → T (below_all slot_cmp slot es)
    → AllByRecursion (λ m. slot.set ≤ m) (sets_among es)
sets_above slot [] h = tt
sets_above slot (e ∷ es) h =
    let first = first_of_both (is_lt (slot_cmp slot e.0)) (below_all slot_cmp slot es) h in
    (up_to slot.set e.0.set (nat_cmp slot.set e.0.set) _ (ranked slot.set e.0.set (nat_cmp slot.set e.0.set) refl) first, sets_above slot es (second_of_both (is_lt (slot_cmp slot e.0)) (below_all slot_cmp slot es) h))

sets_never_fall : (es : Registers) → T (is_sorted slot_cmp es) → NeverFalls (sets_among es)
sets_never_fall [] h = tt
sets_never_fall (e ∷ es) h = (
  sets_above e.0 es (first_of_both (below_all slot_cmp e.0 es) (is_sorted slot_cmp es) h),
  sets_never_fall es (second_of_both (below_all slot_cmp e.0 es) (is_sorted slot_cmp es) h),
)

from_register : (P : Slot → Type 0) (es : Registers) (set : ℕ) → AllByRecursion (λ e. P e.0) es
    → Contains (sets_among es) set → (slot : Slot) × (slot.set ≡ set) × P slot
from_register P [] set all h = absurd (omega (arith, h.1))
from_register P (e ∷ es) set all h = elim (Contains-cons_cases e.0.set (sets_among es) set h) [
  | inl same ↦ (e.0, same, all.0)
  | inr rest ↦ from_register P es set all.1 rest
]

each_among : (es : Registers) → AllByRecursion (λ e. Contains (sets_among es) e.0.set) es
each_among [] = tt
each_among (e ∷ es) = (Contains-first e.0.set (sets_among es), weaker (λ x. Contains (sets_among es) x.0.set) (λ x. Contains (sets_among (e ∷ es)) x.0.set) (λ x h. Contains-later e.0.set (sets_among es) x.0.set h) es (each_among es))

pub voted_sets_are : (change : Change)
    → AreVotedSets change (first_of_each None (sets_among (finite.entries change.votes)))
voted_sets_are change =
    let registers = finite.entries change.votes in
    let found = (AllByRecursion-entries slots_exact (λ slot register. IsSome (finite.get change.votes slot)) change.votes).0 (λ slot register at. ap is_some at) in
    record {
      increasing = IsStrictlyIncreasing-from_sorted _
          (all_firsts_rise (sets_among registers) (sets_never_fall registers (finite.entries_sorted change.votes)));
      voted = λ set. (
        λ h. from_register (λ slot. IsSome (finite.get change.votes slot)) registers set found
            (was_there None (sets_among registers) set h),
        λ (slot, same, known).
            let register = some_of (finite.get change.votes slot) known in
            let there : Contains (sets_among registers) slot.set = (AllByRecursion-entries slots_exact (λ q value. Contains (sets_among registers) q.set) change.votes).1 (each_among registers) slot register.0 register.1 in
            elim (has_first None (sets_among registers) set (subst (Contains (sets_among registers)) same there)) [
              | inl none ↦ cc
              | inr here ↦ here
            ],
      );
    }
