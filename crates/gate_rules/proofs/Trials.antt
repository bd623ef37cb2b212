-- Lists of the conditions that are tried.
use Rattle.std.proofs.Common.{◌≡◌, ◌∙◌, ◌+◌, ◌<◌, ℕ, zero, suc, List, [], ◌∷◌, ◌++◌, Bool, Option, None, Some}
use Rattle.std.proofs.Common.{Contains, length, flat_map, drop, get_or, slice_get, sym, ap, refl, inl, inr, subst}
use Rattle.std.proofs.Common.{append_assoc, arith, add-one, drop-cons, option_map}
use Rattle.std.proofs.lemmas.Option.{none-some}
use Rattle.std.proofs.lemmas.List.Elements.{Contains-append_left, Contains-append_right, Contains-append_cases}
use Rattle.lattice_core.specs.MemberLaws.{Contains-to_flat_map, Contains-of_flat_map}
use Rattle.gate_rules.specs.declared.condition.Side.{Side}
use Rattle.gate_rules.specs.declared.condition.Side.TheVariants.{Require, Reject}
use Rattle.gate_rules.specs.declared.condition.Clause.{Clause}
use Rattle.gate_rules.specs.declared.condition.Clause.TheVariants.{OpenState, CurrentSet, StatusIn, Approval}
use Rattle.gate_rules.specs.declared.tried.Tried.{Tried}
use Rattle.gate_rules.specs.Own.{ItemStanding, compared, matches, side_rules, some}
use Rattle.gate_rules.specs.Rules.{GateRules, PatternRule, SideRules}
use Rattle.gate_rules.specs.Tried.{IsTried, approvals_from, clauses_of, is_broken_by, tried_by, tried_clause, tried_of}
use Rattle.gate_rules.specs.Tried.{tried_side}

-- ---- a loop over the approvals

module _ {Y : Type 0} (tried : Clause → List Y) (patterns : List PatternRule) (i : ℕ) where
  -- one more is tried, and the later ones are left
  pub approvals_step : i < length patterns → (old new whole : List Y) → new ≡ old ++ tried (Approval (i + 1))
      → old ++ flat_map tried (approvals_from i (drop i patterns)) ≡ whole
      → new ++ flat_map tried (approvals_from (i + 1) (drop (i + 1) patterns)) ≡ whole
  approvals_step inside old new whole is so_far =
      let d : PatternRule = record { username = None; labels = [] } in
      let next = flat_map tried (approvals_from (i + 1) (drop (i + 1) patterns)) in
      let more : flat_map tried (approvals_from i (drop i patterns)) ≡ tried (Approval (i + 1)) ++ next = rw (add-one, drop-cons patterns i d inside) refl in
      ap (λ l. l ++ next) is ∙ append_assoc old (tried (Approval (i + 1))) next ∙ ap (λ l. old ++ l) (sym more) ∙ so_far

-- ---- which conditions are tried

nothing_here : {X : Type 0} (x : X) → Contains [] x → ⊥
nothing_here x c = let inside = c.1 in omega (arith, inside)

-- the only element of a list of one
of_one : {X : Type 0} (x y : X) → Contains (x ∷ []) y → x ≡ y
of_one x y c = of_place c.0 c.1 c.2 where
  of_place : (k : ℕ) → k < 1 → get_or (x ∷ []) k y ≡ y → x ≡ y
  of_place zero inside is = is
  of_place (suc k) inside is = absurd (omega (arith, inside))

-- an element further on
later : {X : Type 0} (x y : X) (xs : List X) → Contains xs y → Contains (x ∷ xs) y
later x y xs c = Contains-append_right (x ∷ []) xs y c

-- an approval that is there is among those by their places
approval_there : (patterns : List PatternRule) (first k : ℕ) (pattern : PatternRule) → slice_get patterns k ≡ Some pattern
    → Contains (approvals_from first patterns) (Approval (suc (first + k)))
approval_there [] first k pattern is = absurd (none-some pattern is)
approval_there (p ∷ patterns) first zero pattern is = (0, omega arith, ap (λ (n : ℕ). Approval (suc n)) (omega arith))
approval_there (p ∷ patterns) first (suc k) pattern is =
    let there : Contains (approvals_from (suc first) patterns) (Approval (suc (suc first + k))) = approval_there patterns (suc first) k pattern is in
    let same : suc first + k ≡ first + suc k = omega arith in
    later (Approval (suc first)) (Approval (suc (first + suc k))) (approvals_from (suc first) patterns)
    (subst (λ (n : ℕ). Contains (approvals_from (suc first) patterns) (Approval (suc n))) same there)

module _ (gate : GateRules) (standing : ItemStanding) where
  of_clause : (side : Side) (clause : Clause) (held : Option Bool) (tried : Tried) → Contains (tried_clause side clause held) tried
      → (h : Bool) × (held ≡ Some h)
      × (record { condition = record { side = side; clause = clause }; is_broken = is_broken_by side h } ≡ tried)
  of_clause side clause None tried c = absurd (nothing_here tried c)
  of_clause side clause (Some h) tried c =
      (h, refl, of_one (record { condition = record { side = side; clause = clause }; is_broken = is_broken_by side h }) tried c)

  -- what is tried of a side is a condition that the gate has
  of_side : (side : Side) (tried : Tried) → Contains (tried_side gate standing side) tried → IsTried gate standing tried
  of_side side tried c =
      let found = Contains-of_flat_map (tried_by gate standing side) (clauses_of (side_rules gate side)) tried c in
      let has = of_clause side found.0 (compared (side_rules gate side) standing found.0) tried found.2 in
      subst (IsTried gate standing) has.2 (record { held = has.0; has = has.1; broken = refl })

  -- a clause that a side has is among those of the side
  approval_had : (rules : SideRules) (h : Bool) (k : ℕ) (found : Option PatternRule) → slice_get rules.approvals k ≡ found
      → option_map (λ (pattern : PatternRule). some (matches pattern) standing.approvals) found ≡ Some h
      → Contains (approvals_from 0 rules.approvals) (Approval (suc k))
  approval_had rules h k None at is = absurd (none-some h is)
  approval_had rules h k (Some pattern) at is =
      let same : 0 + k ≡ k = omega arith in
      subst (λ (n : ℕ). Contains (approvals_from 0 rules.approvals) (Approval (suc n))) same (approval_there rules.approvals 0 k pattern at)

  had : (rules : SideRules) (h : Bool) (clause : Clause) → compared rules standing clause ≡ Some h
      → Contains (clauses_of rules) clause
  had rules h OpenState is = (0, omega arith, refl)
  had rules h CurrentSet is = (1, omega arith, refl)
  had rules h StatusIn is = (2, omega arith, refl)
  had rules h (Approval zero) is = absurd (none-some h is)
  had rules h (Approval (suc k)) is =
      let clauses = approvals_from 0 rules.approvals in
      let there = approval_had rules h k (slice_get rules.approvals k) refl is in
      later OpenState (Approval (suc k)) (CurrentSet ∷ StatusIn ∷ clauses)
      (later CurrentSet (Approval (suc k)) (StatusIn ∷ clauses) (later StatusIn (Approval (suc k)) clauses there))

  -- a condition that the gate has is tried
  in_clause : (side : Side) (clause : Clause) (h : Bool) (held : Option Bool) → held ≡ Some h
      → Contains (tried_clause side clause held) (record { condition = record { side = side; clause = clause }; is_broken = is_broken_by side h })
  in_clause side clause h held is =
      let this : Tried = record { condition = record { side = side; clause = clause }; is_broken = is_broken_by side h } in
      subst (λ (o : Option Bool). Contains (tried_clause side clause o) this) (sym is) (0, omega arith, refl)

  in_side : (side : Side) (clause : Clause) (h : Bool) → compared (side_rules gate side) standing clause ≡ Some h
      → Contains (tried_side gate standing side) (record { condition = record { side = side; clause = clause }; is_broken = is_broken_by side h })
  in_side side clause h is =
      Contains-to_flat_map (tried_by gate standing side) (clauses_of (side_rules gate side)) clause
      (record { condition = record { side = side; clause = clause }; is_broken = is_broken_by side h })
      (had (side_rules gate side) h clause is)
      (in_clause side clause h (compared (side_rules gate side) standing clause) is)

  in_either : (side : Side) (tried : Tried) → Contains (tried_side gate standing side) tried → Contains (tried_of gate standing) tried
  in_either Require tried c = Contains-append_left (tried_side gate standing Require) (tried_side gate standing Reject) tried c
  in_either Reject tried c = Contains-append_right (tried_side gate standing Require) (tried_side gate standing Reject) tried c

  pub is_had : (tried : Tried) → Contains (tried_of gate standing) tried → IsTried gate standing tried
  is_had tried c = elim (Contains-append_cases (tried_side gate standing Require) (tried_side gate standing Reject) tried c) as (λ _. IsTried gate standing tried) [
    | inl here ↦ of_side Require tried here
    | inr here ↦ of_side Reject tried here
  ]

  pub is_tried : (tried : Tried) → IsTried gate standing tried → Contains (tried_of gate standing) tried
  is_tried tried is =
      let side = tried.condition.side in
      let clause = tried.condition.clause in
      let this : Tried = record { condition = record { side = side; clause = clause }; is_broken = is_broken_by side is.held } in
      let same : this ≡ tried = ap (λ (b : Bool). record { condition = tried.condition; is_broken = b }) (sym is.broken) in
      subst (Contains (tried_of gate standing)) same (in_either side this (in_side side clause is.held is.has))
