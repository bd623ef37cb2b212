-- Which change a footer's value names. The forms are those of a change's address in Gerrit, BASE/N, BASE/#/c/N and
-- BASE/c/PROJECT/+/N, each perhaps with a patch set, which doesn't count. Zuul's documentation, "Cross-Project
-- Dependencies", names a change by its address. How long a number may be, and which of several bases counts, are this
-- project's own rules.
use Rattle.std.specs.Prelude.{◌≡◌, ℕ, ◌≤◌, ◌≢◌, ◌⊎◌, true, List, [], ◌∷◌, ◌++◌, length, codes, Contains}
use Rattle.std.specs.Str.{all_ascii_digits}
use Rattle.std.specs.Str.Parse.{digits_value}

-- 1 to 10 ASCII digits
pub record IsNumeral (digits : List ℕ) : Type 0 where
  pub some : 1 ≤ length digits
  pub few : length digits ≤ 10
  pub all : all_ascii_digits digits ≡ true

-- such digits spell a change's number
pub record SpellsChange (digits : List ℕ) (change : ℕ) : Type 0 where
  pub is_numeral : IsNumeral digits
  pub is_value : digits_value 10 digits ≡ change
  pub at_least : 1 ≤ change
  pub at_most : change ≤ 4294967295

-- what may follow the `/` after a change's number: nothing, a patch set's number, or such a number and a `/`
abbrev pub IsPatch : List ℕ → Type 0
IsPatch patch =
    (patch ≡ []) ⊎ (IsNumeral patch ⊎ ((digits : List ℕ) × IsNumeral digits × (patch ≡ digits ++ codes "/")))

-- what may follow a change's number: nothing, or a `/` and what may follow that
abbrev pub IsTail : List ℕ → Type 0
IsTail tail = (tail ≡ []) ⊎ ((patch : List ℕ) × IsPatch patch × (tail ≡ codes "/" ++ patch))

-- the text is the change's number and an optional tail
pub record IsNumberAndTail (text : List ℕ) (change : ℕ) : Type 0 where
  pub digits : List ℕ
  pub tail : List ℕ
  pub whole : text ≡ digits ++ tail
  pub spells : SpellsChange digits change
  pub is_tail : IsTail tail

-- what may be between a base and a change's number: nothing, `#/c/`, or `c/`, a project and `/+/`. No `+` follows
-- in a number and its tail, so it is the last `/+/` that ends the project.
abbrev pub IsForm : List ℕ → Type 0
IsForm form = (form ≡ []) ⊎ ((form ≡ codes "#/c/")
    ⊎ ((project : List ℕ) × (project ≢ []) × (form ≡ codes "c/" ++ (project ++ codes "/+/"))))

-- under this base the value reads as this change: base, form, and the number with an optional tail
pub record ReadsAs (base value : List ℕ) (change : ℕ) : Type 0 where
  pub form : List ℕ
  pub number : List ℕ
  pub whole : value ≡ base ++ (form ++ number)
  pub is_form : IsForm form
  pub is_number : IsNumberAndTail number change

-- the first of the bases, in their order, under which the value reads as a change gives this one
pub record NamesChange (bases : List (List ℕ)) (value : List ℕ) (change : ℕ) : Type 0 where
  pub before : List (List ℕ)
  pub base : List ℕ
  pub after : List (List ℕ)
  pub whole : bases ≡ before ++ base ∷ after
  pub reads : ReadsAs base value change
  pub first : (earlier : List ℕ) (other : ℕ) → Contains before earlier → ¬ (ReadsAs earlier value other)
