-- What the walk over a gate file finds at each object and at each list: the first fault, and none where there is none.
use Rattle.std.specs.Prelude.{◌≡◌, ℕ, List, [], ◌∷◌, ◌++◌, All, Option, Some, None, MatchOption}
use Rattle.serde_json.specs.Data.{Data, Members, no_members, member}
use Rattle.gate_rules.specs.Walk.{Fault, first_fault, first_in_list}

-- the members of an object with their keys, in byte order of these
abbrev pub members_of : Members → List (List ℕ × Data)
members_of no_members = []
members_of (member key d ms) = (key, d) ∷ members_of ms

-- the fault is at one of these, and none before it has one
pub record IsFirstFaultOf {A : Type 0} (judge : A → Option Fault) (xs : List A) (fault : Fault) : Type 0 where
  pub before : List A
  pub at : A
  pub after : List A
  pub split : xs ≡ before ++ at ∷ after
  pub here : judge at ≡ Some fault
  pub none_before : All (λ x. judge x ≡ None) before

-- what was found is the first fault of these, or none of them has one
abbrev pub FindsFirst : {A : Type 0} → (A → Option Fault) → List A → Option Fault → Type 0
FindsFirst judge xs found = MatchOption found (All (λ x. judge x ≡ None) xs) (IsFirstFaultOf judge xs)

-- an object's fault is at a member, and no member before it has one
abbrev pub FindsFirstMember : Type 0
FindsFirstMember = (judge : List ℕ → Data → Option Fault) (ms : Members)
    → FindsFirst (λ m. judge m.0 m.1) (members_of ms) (first_fault judge ms)

-- a list's fault is at an item, and no item before it has one
abbrev pub FindsFirstItem : Type 0
FindsFirstItem = (judge : Data → Option Fault) (ds : List Data) → FindsFirst judge ds (first_in_list judge ds)
