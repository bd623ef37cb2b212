-- The state of a journal is that of its set of operations, and the state of a union is the join of the states.
use Rattle.std.specs.Prelude.{◌≡◌, Bool, true, false, cond, List, [], ◌∷◌, ◌++◌, Option, None, Some, filter, fold}
use Rattle.std.specs.Prelude.{MatchOption, Contains}
use Rattle.std.specs.Ordering.{nat_cmp}
use Rattle.std.specs.FinMap.{empty, get, get-empty}
use Rattle.std.proofs.Common.{refl, sym, ap, ◌∙◌, subst}
use Rattle.std.proofs.lemmas.List.Elements.{filter-append}
use Rattle.std.proofs.lemmas.List.Sums.{fold-append}
use Rattle.std.proofs.lemmas.List.{append-nil, append_assoc}
use Rattle.lattice_core.specs.Keep.{numbers_exact}
use Rattle.lattice_core.specs.Join.{option_joined}
use Rattle.lattice_core.specs.JoinMap.{joined_to, get-put_joined, get-map_joined, same_at_each_key}
use Rattle.review_ops.specs.Deed.{change_of}
use Rattle.review_ops.specs.Operation.{Operation}
use Rattle.change_core.specs.Change.{Change, change_joined, effect_of}
use Rattle.change_core.specs.StateOf.{IsStateOf}
use Rattle.change_core.specs.StateLaws.{state_of_both, state_of_one, state_of_same, state_of_unique}
use Rattle.lattice_core.specs.Exact.{same_by_test}
use Rattle.lattice_core.specs.MemberLaws.{Contains-first, Contains-none, Contains-of_filter, Contains-to_filter}
use Rattle.state_core.specs.State.{State, is_on, ops_on, IsJournalState, with_effect, state_of, states_joined}

-- what a journal's operations on a change add up to, if there are any
abbrev AddUpTo : List Operation → Option Change → Type 0
AddUpTo ops found = MatchOption found (ops ≡ []) (λ c. (¬ (ops ≡ [])) × IsStateOf ops c)

no_more : (xs : List Operation) (op : Operation) (ys : List Operation) → ¬ (xs ++ op ∷ ys ≡ [])
no_more [] op ys e = cc
no_more (x ∷ xs) op ys e = cc

some_left : (xs ys : List Operation) → ¬ (xs ≡ []) → ¬ (xs ++ ys ≡ [])
some_left [] ys h e = h refl
some_left (x ∷ xs) ys h e = cc

-- the parts of a journal add up to the join
joined_AddUpTo : (xs ys : List Operation) (a b : Option Change) → AddUpTo xs a → AddUpTo ys b
    → AddUpTo (xs ++ ys) (option_joined change_joined a b)
joined_AddUpTo xs ys None None is_a is_b = ap (λ l. l ++ ys) is_a ∙ is_b
joined_AddUpTo xs ys None (Some b) is_a is_b = subst (λ l. AddUpTo (l ++ ys) (Some b)) (sym is_a) is_b
joined_AddUpTo xs ys (Some a) None is_a is_b =
    subst (λ l. AddUpTo l (Some a)) (sym (ap (λ l. xs ++ l) is_b ∙ append-nil xs)) is_a
joined_AddUpTo xs ys (Some a) (Some b) is_a is_b = (some_left xs ys is_a.0, state_of_both xs ys a b is_a.1 is_b.1)

joined_to_option : (found : Option Change) (c : Change)
    → Some (joined_to change_joined found c) ≡ option_joined change_joined found (Some c)
joined_to_option None c = refl
joined_to_option (Some a) c = refl

-- one more operation
one_more : (journal : List Operation) (state : State) (op : Operation) → IsJournalState journal state
    → IsJournalState (journal ++ op ∷ []) (with_effect state op)
one_more journal state op is change =
    subst (AddUpTo (ops_on change (journal ++ op ∷ [])))
    (sym (get-put_joined numbers_exact change_joined state (change_of op.deed) (effect_of op) change))
    (subst (λ l. AddUpTo l (cond (is_on change op) (Some (joined_to change_joined (get state (change_of op.deed)) (effect_of op))) (get state change))) (sym (filter-append (is_on change) journal (op ∷ [])))
    (elim (is_on change op) as (λ t. is_on change op ≡ t → AddUpTo (ops_on change journal ++ cond t (op ∷ []) []) (cond t (Some (joined_to change_joined (get state (change_of op.deed)) (effect_of op))) (get state change))) [
      | true ↦ λ e. subst (AddUpTo (ops_on change journal ++ op ∷ []))
          (ap (λ found. option_joined change_joined found (Some (effect_of op))) (ap (get state) (same_by_test numbers_exact change (change_of op.deed) e)) ∙ sym (joined_to_option (get state (change_of op.deed)) (effect_of op)))
          (joined_AddUpTo (ops_on change journal) (op ∷ []) (get state change) (Some (effect_of op)) (is change) (no_more [] op [], state_of_one op))
      | false ↦ λ e. subst (λ l. AddUpTo l (get state change)) (sym (append-nil (ops_on change journal))) (is change)
    ] refl))

none_yet : IsJournalState [] empty
none_yet change = subst (AddUpTo []) (sym (get-empty nat_cmp change)) refl

state_from : (journal ops : List Operation) (state : State) → IsJournalState journal state
    → IsJournalState (journal ++ ops) (fold with_effect state ops)
state_from journal [] state is = subst (λ l. IsJournalState l state) (sym (append-nil journal)) is
state_from journal (op ∷ ops) state is =
    subst (λ l. IsJournalState l (fold with_effect (with_effect state op) ops)) (append_assoc journal (op ∷ []) ops)
    (state_from (journal ++ op ∷ []) ops (with_effect state op) (one_more journal state op is))

-- the fold of the effects is the state, register by register
pub state_of-IsJournalState : (journal : List Operation) → IsJournalState journal (state_of journal)
unfolding state_of
state_of-IsJournalState journal = state_from [] journal empty none_yet

pub state_of-nil : state_of [] ≡ empty
unfolding state_of
state_of-nil = refl

pub state_of-push : (journal : List Operation) (op : Operation)
    → state_of (journal ++ op ∷ []) ≡ with_effect (state_of journal) op
unfolding state_of
state_of-push journal op = fold-append with_effect empty journal (op ∷ [])

one_found : (ops : List Operation) (a b : Option Change) → AddUpTo ops a → AddUpTo ops b → a ≡ b
one_found ops None None is_a is_b = refl
one_found ops None (Some b) is_a is_b = absurd (is_b.0 is_a)
one_found ops (Some a) None is_a is_b = absurd (is_a.0 is_b)
one_found ops (Some a) (Some b) is_a is_b = ap Some (state_of_unique ops a b is_a.1 is_b.1)

-- a journal has one state
pub IsJournalState-unique : (journal : List Operation) (a b : State) → IsJournalState journal a
    → IsJournalState journal b → a ≡ b
IsJournalState-unique journal a b is_a is_b = same_at_each_key numbers_exact a b
    (λ change. one_found (ops_on change journal) (get a change) (get b change) (is_a change) (is_b change))

-- the state of a union is the join of the states
pub IsJournalState-append : (xs ys : List Operation) (a b : State) → IsJournalState xs a → IsJournalState ys b
    → IsJournalState (xs ++ ys) (states_joined a b)
IsJournalState-append xs ys a b is_a is_b change =
    subst (AddUpTo (ops_on change (xs ++ ys))) (sym (get-map_joined numbers_exact change_joined a b change))
    (subst (λ l. AddUpTo l (option_joined change_joined (get a change) (get b change))) (sym (filter-append (is_on change) xs ys))
    (joined_AddUpTo (ops_on change xs) (ops_on change ys) (get a change) (get b change) (is_a change) (is_b change)))

pub state_of-append : (xs ys : List Operation) → state_of (xs ++ ys) ≡ states_joined (state_of xs) (state_of ys)
state_of-append xs ys = IsJournalState-unique (xs ++ ys) _ _ (state_of-IsJournalState (xs ++ ys))
    (IsJournalState-append xs ys _ _ (state_of-IsJournalState xs) (state_of-IsJournalState ys))

-- ---- neither order nor repeats count
no_members : {X : Type 0} (xs : List X) → ((x : X) → ¬ Contains xs x) → xs ≡ []
no_members [] none = refl
no_members (x ∷ xs) none = absurd (none x (Contains-first x xs))

added_up : (xs ys : List Operation) → ((op : Operation) → Contains xs op → Contains ys op)
    → ((op : Operation) → Contains ys op → Contains xs op) → (found : Option Change) → AddUpTo xs found
    → AddUpTo ys found
added_up xs ys there back None none =
    no_members ys (λ op c. Contains-none op (subst (λ l. Contains l op) none (back op c)))
added_up xs ys there back (Some c) is = (
  λ none. is.0 (no_members xs (λ op has. Contains-none op (subst (λ l. Contains l op) none (there op has)))),
  state_of_same xs ys c there back is.1,
)

kept_alike : (test : Operation → Bool) (xs ys : List Operation) → ((op : Operation) → Contains xs op → Contains ys op)
    → (op : Operation) → Contains (filter test xs) op → Contains (filter test ys) op
kept_alike test xs ys there op kept = let found = Contains-of_filter test xs op kept in Contains-to_filter test ys op
    (there op found.0) found.1

-- journals with the same operations have one state
pub state_of-same : (xs ys : List Operation) → ((op : Operation) → Contains xs op → Contains ys op)
    → ((op : Operation) → Contains ys op → Contains xs op) → state_of xs ≡ state_of ys
state_of-same xs ys there back = IsJournalState-unique ys (state_of xs) (state_of ys)
    (λ change. added_up (ops_on change xs) (ops_on change ys) (kept_alike (is_on change) xs ys there) (kept_alike (is_on change) ys xs back) (get (state_of xs) change) (state_of-IsJournalState xs change))
    (state_of-IsJournalState ys)
