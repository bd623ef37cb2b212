-- Things that are numbered from 1 on, as sites and packets are.
use Rattle.std.specs.Prelude.{◌≡◌, ◌⊎◌, ℕ, zero, suc, List, [], ◌∷◌, ◌++◌, Option, Some, None, slice_get, slice_set}
use Rattle.std.specs.Prelude.{refl}
use Rattle.std.proofs.Common.{inl, inr, ap, sym, ◌+◌, add-one, ◌<◌, length, get_or, ◌∙◌, arith}
use Rattle.std.proofs.lemmas.Option.{slice_get-get_or, slice_get_past}

-- the thing of this number, if there is one
abbrev pub numbered : {T : Type 0} → List T → ℕ → Option T
numbered things zero = None
numbered things (suc place) = slice_get things place

-- the things, with this one under the number
abbrev pub replaced : {T : Type 0} → List T → ℕ → T → List T
replaced things zero thing = things
replaced things (suc place) thing = slice_set things place thing

get-set : {T : Type 0} (things : List T) (i : ℕ) (thing : T) (j : ℕ)
    → (slice_get (slice_set things i thing) j ≡ slice_get things j)
    ⊎ ((j ≡ i) × (slice_get (slice_set things i thing) j ≡ Some thing))
get-set [] i thing j = inl refl
get-set (x ∷ things) zero thing zero = inr (refl, refl)
get-set (x ∷ things) zero thing (suc j) = inl refl
get-set (x ∷ things) (suc i) thing zero = inl refl
get-set (x ∷ things) (suc i) thing (suc j) = elim
    (get-set things i thing j) [ inl e ↦ inl e | inr h ↦ inr (ap suc h.0, h.1) ]

-- another is what it was
pub numbered-replaced : {T : Type 0} (things : List T) (number : ℕ) (thing : T) (other : ℕ)
    → (numbered (replaced things number thing) other ≡ numbered things other)
    ⊎ ((other ≡ number) × (numbered (replaced things number thing) other ≡ Some thing))
numbered-replaced things zero thing other = inl refl
numbered-replaced things (suc i) thing zero = inl refl
numbered-replaced things (suc i) thing (suc j) = elim
    (get-set things i thing j) [ inl e ↦ inl e | inr h ↦ inr (ap suc h.0, h.1) ]

get-set_same : {T : Type 0} (things : List T) (i : ℕ) (was thing : T) → slice_get things i ≡ Some was
    → slice_get (slice_set things i thing) i ≡ Some thing
get-set_same [] i was thing found = cc
get-set_same (x ∷ things) zero was thing found = refl
get-set_same (x ∷ things) (suc i) was thing found = get-set_same things i was thing found

-- what is put there is there
pub numbered-replaced_same : {T : Type 0} (things : List T) (number : ℕ) (was thing : T)
    → numbered things number ≡ Some was → numbered (replaced things number thing) number ≡ Some thing
numbered-replaced_same things zero was thing found = cc
numbered-replaced_same things (suc i) was thing found = get-set_same things i was thing found

set_back : {T : Type 0} (things : List T) (i : ℕ) (was : T) → slice_get things i ≡ Some was
    → slice_set things i was ≡ things
set_back [] i was found = cc
set_back (x ∷ things) zero was found = let e : x ≡ was = cc in ap (λ t. t ∷ things) (sym e)
set_back (x ∷ things) (suc i) was found = ap (λ l. x ∷ l) (set_back things i was found)

-- to put back what was there changes nothing
pub replaced_back : {T : Type 0} (things : List T) (number : ℕ) (was : T) → numbered things number ≡ Some was
    → replaced things number was ≡ things
replaced_back things zero was found = refl
replaced_back things (suc i) was found = set_back things i was found

get-append : {T : Type 0} (things more : List T) (i : ℕ) (thing : T) → slice_get things i ≡ Some thing
    → slice_get (things ++ more) i ≡ Some thing
get-append [] more i thing found = cc
get-append (x ∷ things) more zero thing found = found
get-append (x ∷ things) more (suc i) thing found = get-append things more i thing found

-- what is added at the end changes no number
pub numbered-append : {T : Type 0} (things more : List T) (number : ℕ) (thing : T) → numbered things number ≡ Some thing
    → numbered (things ++ more) number ≡ Some thing
numbered-append things more zero thing found = cc
numbered-append things more (suc i) thing found = get-append things more i thing found

get_at : {T : Type 0} (things : List T) (place : ℕ) (thing : T) → place < length things
    → thing ≡ get_or things place thing → slice_get things place ≡ Some thing
get_at things place thing within is = slice_get-get_or things place thing within ∙ ap Some (sym is)

-- what is at a place has the number one above it
pub numbered_at : {T : Type 0} (things : List T) (number place : ℕ) (thing : T) → number ≡ place + 1
    → place < length things → thing ≡ get_or things place thing → numbered things number ≡ Some thing
numbered_at things number place thing is within at =
    ap (numbered things) (is ∙ add-one place) ∙ get_at things place thing within at

-- and is replaced under it
pub replaced_at : {T : Type 0} (things : List T) (number place : ℕ) (thing : T) → number ≡ place + 1
    → replaced things number thing ≡ slice_set things place thing
replaced_at things number place thing is = ap (λ n. replaced things n thing) (is ∙ add-one place)

-- nothing has the number 0, or one past the last
pub numbered_past : {T : Type 0} (things : List T) (number : ℕ) → (number ≡ 0) ⊎ (length things < number)
    → numbered things number ≡ None
numbered_past things number (inl none) = ap (numbered things) none
numbered_past things zero (inr past) = refl
numbered_past things (suc place) (inr past) = slice_get_past things place (omega arith)

get-push : {T : Type 0} (things : List T) (last : T) (i : ℕ) (thing : T)
    → slice_get (things ++ last ∷ []) i ≡ Some thing → (slice_get things i ≡ Some thing) ⊎ (thing ≡ last)
get-push [] last zero thing e = inr (let same : last ≡ thing = cc in sym same)
get-push [] last (suc i) thing e = cc
get-push (x ∷ things) last zero thing e = inl e
get-push (x ∷ things) last (suc i) thing e = get-push things last i thing e

-- with one more at the end, a number has what it had or the last
pub numbered-push : {T : Type 0} (things : List T) (last : T) (number : ℕ) (thing : T)
    → numbered (things ++ last ∷ []) number ≡ Some thing → (numbered things number ≡ Some thing) ⊎ (thing ≡ last)
numbered-push things last zero thing e = cc
numbered-push things last (suc i) thing e = get-push things last i thing e

get_last : {T : Type 0} (things : List T) (last : T) → slice_get (things ++ last ∷ []) (length things) ≡ Some last
get_last [] last = refl
get_last (x ∷ things) last = get_last things last

length_one_more : {T : Type 0} (things : List T) (last : T) → length (things ++ last ∷ []) ≡ suc (length things)
length_one_more [] last = refl
length_one_more (x ∷ things) last = ap suc (length_one_more things last)

-- the last has the number of how many there are
pub numbered_last : {T : Type 0} (things : List T) (last : T)
    → numbered (things ++ last ∷ []) (length (things ++ last ∷ [])) ≡ Some last
numbered_last things last = ap (numbered (things ++ last ∷ [])) (length_one_more things last) ∙ get_last things last
