-- The fields in their order.
use Rattle.std.proofs.Common.{◌≡◌, ℕ, ◌<◌, ◌+◌, length, suc, zero, Bool, true, false, ◌&&◌, List, [], ◌∷◌, get_or}
use Rattle.std.proofs.Common.{Ordering, Less, Equal, Greater, refl, sym, ap, ◌∙◌, arith}
use Rattle.std.proofs.lemmas.Bool.{false≢true}
use Rattle.std.proofs.lemmas.Cmp.{ranked}
use Rattle.std.specs.Cmp.Lexicographic.{slice_cmp}
use Rattle.std.specs.Ordering.{nat_cmp}
use Rattle.op_text.specs.declared.field.Field.{Field}
use Rattle.op_text.specs.declared.field.Field.TheVariants.{Change, Label, Message, Op, Parent, Seq, Set, Site, Start}
use Rattle.op_text.specs.declared.field.Field.TheVariants.{Time, Value, Voter}
use Rattle.op_text.specs.Field.{key_of}
use Rattle.op_text.specs.Text.{all_fields}

abbrev pub place_of : Field → ℕ
place_of Change = 0
place_of Label = 1
place_of Message = 2
place_of Op = 3
place_of Parent = 4
place_of Seq = 5
place_of Set = 6
place_of Site = 7
place_of Start = 8
place_of Time = 9
place_of Value = 10
place_of Voter = 11

-- each field is at its place
pub field_at : (field : Field) → (place_of field < 12) × (get_or all_fields (place_of field) Change ≡ field)
field_at Change = (omega arith, refl)
field_at Label = (omega arith, refl)
field_at Message = (omega arith, refl)
field_at Op = (omega arith, refl)
field_at Parent = (omega arith, refl)
field_at Seq = (omega arith, refl)
field_at Set = (omega arith, refl)
field_at Site = (omega arith, refl)
field_at Start = (omega arith, refl)
field_at Time = (omega arith, refl)
field_at Value = (omega arith, refl)
field_at Voter = (omega arith, refl)

-- a test of each field
abbrev every : (Field → Bool) → Bool
every p = p Change && (p Label && (p Message && (p Op && (p Parent && (p Seq && (p Set && (p Site && (p Start && (p Time && (p Value && p Voter))))))))))

and_left : (a b : Bool) → (a && b) ≡ true → a ≡ true
and_left true b h = refl
and_left false b h = h

and_right : (a b : Bool) → (a && b) ≡ true → b ≡ true
and_right true b h = h
and_right false b h = absurd (false≢true h)

every_at : (p : Field → Bool) → every p ≡ true → (field : Field) → p field ≡ true
every_at p h field =
    let h1 = and_right (p Change) _ h in
    let h2 = and_right (p Label) _ h1 in
    let h3 = and_right (p Message) _ h2 in
    let h4 = and_right (p Op) _ h3 in
    let h5 = and_right (p Parent) _ h4 in
    let h6 = and_right (p Seq) _ h5 in
    let h7 = and_right (p Set) _ h6 in
    let h8 = and_right (p Site) _ h7 in
    let h9 = and_right (p Start) _ h8 in
    let h10 = and_right (p Time) _ h9 in
    elim field as (λ f. p f ≡ true) [
      | Change ↦ and_left (p Change) _ h
      | Label ↦ and_left (p Label) _ h1
      | Message ↦ and_left (p Message) _ h2
      | Op ↦ and_left (p Op) _ h3
      | Parent ↦ and_left (p Parent) _ h4
      | Seq ↦ and_left (p Seq) _ h5
      | Set ↦ and_left (p Set) _ h6
      | Site ↦ and_left (p Site) _ h7
      | Start ↦ and_left (p Start) _ h8
      | Time ↦ and_left (p Time) _ h9
      | Value ↦ and_left (p Value) _ h10
      | Voter ↦ and_right (p Value) _ h10
    ]

alike : Ordering → Ordering → Bool
alike Less Less = true
alike Equal Equal = true
alike Greater Greater = true
alike a b = false

same_ordering : (a b : Ordering) → alike a b ≡ true → a ≡ b
unfolding alike
same_ordering Less Less h = refl
same_ordering Equal Equal h = refl
same_ordering Greater Greater h = refl
same_ordering a b h = absurd (false≢true h)

-- the keys are in the order of the places
in_order : every (λ f. every (λ g. alike (slice_cmp nat_cmp (key_of f) (key_of g)) (nat_cmp (place_of f) (place_of g))))
    ≡ true
unfolding alike
in_order = refl

pub slice_cmp-key_of : (f g : Field) → slice_cmp nat_cmp (key_of f) (key_of g) ≡ nat_cmp (place_of f) (place_of g)
slice_cmp-key_of f g =
    let test = λ (x : Field) (y : Field). alike (slice_cmp nat_cmp (key_of x) (key_of y)) (nat_cmp (place_of x) (place_of y)) in
    same_ordering _ _ (every_at (test f) (every_at (λ x. every (test x)) in_order f) g)

pub place_below : (f g : Field) → slice_cmp nat_cmp (key_of f) (key_of g) ≡ Less → place_of f < place_of g
place_below f g less = ranked (place_of f) (place_of g) Less (sym less ∙ slice_cmp-key_of f g)

-- the places of a list's fields, from n on
abbrev pub Placed : ℕ → List Field → Type 0
Placed n [] = Unit {0}
Placed n (x ∷ xs) = (place_of x ≡ n) × Placed (n + 1) xs

placed_at : (xs : List Field) (n i : ℕ) → Placed n xs → i < length xs → place_of (get_or xs i Change) ≡ n + i
placed_at [] n i h within = absurd (omega arith)
placed_at (x ∷ xs) n zero h within = omega (arith, h.0)
placed_at (x ∷ xs) n (suc i) h within = omega (arith, placed_at xs (n + 1) i h.1 (omega arith))

pub placed : Placed 0 all_fields
placed = (refl, (refl, (refl, (refl, (refl, (refl, (refl, (refl, (refl, (refl, (refl, (refl, tt))))))))))))

-- fields at one place are one
pub same_place : (f g : Field) → place_of f ≡ place_of g → f ≡ g
same_place f g e = sym (field_at f).1 ∙ ap (λ i. get_or all_fields i Change) e ∙ (field_at g).1

-- the place of what is at a place
pub place_at : (i : ℕ) → i < 12 → place_of (get_or all_fields i Change) ≡ i
place_at i h = omega (arith, placed_at all_fields 0 i placed h)
