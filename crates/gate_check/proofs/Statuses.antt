-- Which names statuses have.
use Rattle.std.proofs.Common.{◌≡◌, ◌⊎◌, ℕ, List, Bool, inl, inr, true, ◌||◌, refl, subst, sym}
use Rattle.std.specs.Str.{bytes_eq}
use Rattle.std.proofs.lemmas.Bool.{or_cases}
use Rattle.std.proofs.lemmas.Slice.Eq.{bytes_eq-Decides}
use Rattle.change_core.specs.Status.{status_name}
use Rattle.change_core.specs.declared.life.Status.{Status}
use Rattle.change_core.specs.declared.life.Status.TheVariants.{New, Abandoned, Merged}
use Rattle.gate_check.specs.Warnings.{is_status_name}

abbrev has : List ℕ → Type 0
has name = (status : Status) × (name ≡ status_name status)

abbrev is_named : List ℕ → Status → Bool
is_named name status = bytes_eq name (status_name status)

named_by : (name : List ℕ) (status : Status) → is_named name status ≡ true → has name
named_by name status is = (status, (bytes_eq-Decides name (status_name status)).0 is)

one_of_two : (name : List ℕ) → (is_named name Merged ≡ true) ⊎ (is_named name Abandoned ≡ true) → has name
one_of_two name (inl is) = named_by name Merged is
one_of_two name (inr is) = named_by name Abandoned is

one_of_three : (name : List ℕ)
    → (is_named name New ≡ true) ⊎ ((is_named name Merged || is_named name Abandoned) ≡ true) → has name
one_of_three name (inl is) = named_by name New is
one_of_three name (inr is) = one_of_two name (or_cases (is_named name Merged) (is_named name Abandoned) is)

-- such a name is a status's
pub is_status : (name : List ℕ) → is_status_name name ≡ true → (status : Status) × (name ≡ status_name status)
is_status name is =
    one_of_three name (or_cases (is_named name New) (is_named name Merged || is_named name Abandoned) is)

each_is_named : (status : Status) → is_status_name (status_name status) ≡ true
each_is_named New = refl
each_is_named Abandoned = refl
each_is_named Merged = refl

-- and a status has such a name
pub is_named_so : (name : List ℕ) → (status : Status) × (name ≡ status_name status) → is_status_name name ≡ true
is_named_so name named = subst (λ n. is_status_name n ≡ true) (sym named.1) (each_is_named named.0)
