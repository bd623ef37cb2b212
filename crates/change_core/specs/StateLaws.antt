-- What operations add up to: one state, that of their set, and the join of what their parts add up to.
use Rattle.std.specs.Prelude.{◌≡◌, ℕ, pos, Bool, true, false, cond, ◌||◌, List, [], ◌∷◌, ◌++◌, Option, None, Some}
use Rattle.std.specs.Prelude.{Contains}
use Rattle.std.specs.declared.cmp.Ordering.{Ordering}
use Rattle.std.specs.Ordering.{ord_max}
use Rattle.std.specs.List.{list_any, filter_map, cons_option}
use Rattle.std.specs.FinMap as map
use Rattle.std.proofs.Common.{refl, sym, ap, ◌∙◌, subst, inl, inr, arith}
use Rattle.std.proofs.lemmas.List.Elements.{filter_map-append, Contains-append_right}
use Rattle.std.proofs.lemmas.Bool.{false≢true, false_from_ne_true}
use Rattle.std.proofs.lemmas.List.Folds.{list_any-append}
use Rattle.lattice_core.specs.MemberLaws.{Contains-cons_cases}
use Rattle.lattice_core.specs.Keep.{IsExactOrder, numbers_exact}
use Rattle.lattice_core.specs.Join.{option_joined}
use Rattle.lattice_core.specs.JoinMap.{get-map_joined, same_at_each_key, empty-map_joined}
use Rattle.review_ops.specs.Timestamp.{Timestamp}
use Rattle.review_ops.specs.Deed.{Deed, patch_set, vote, withdraw, abandon, restore, merged}
use Rattle.review_ops.specs.Operation.{Operation}
use Rattle.change_core.specs.Slots.{Slot, slots_exact, same_set, same_slot}
use Rattle.change_core.specs.Change.{Change, no_change, effect_of, effect_by, change_joined, life_order, patch_order}
use Rattle.change_core.specs.Change.{vote_order, life_order_exact, patch_order_exact, vote_order_exact}
use Rattle.change_core.specs.Written.{commit_in, score_in, life_in, merges, stamped, with_stamp}
use Rattle.change_core.specs.StateOf.{IsStateOf}
use Rattle.change_core.specs.Registers.{IsRegister, IsRegister-append, IsRegister-unique, IsRegister-one}
use Rattle.change_core.specs.Registers.{IsRegister-same}

module _ {T : Type 0} {order : Timestamp × T → Timestamp × T → Ordering} (exact_order : IsExactOrder order)
    (read : Deed → Option T) where
  register_of_both : (xs ys : List Operation) (r s both : Option (Timestamp × T))
      → both ≡ option_joined (ord_max order) r s → IsRegister order (filter_map (stamped read) xs) r
      → IsRegister order (filter_map (stamped read) ys) s → IsRegister order (filter_map (stamped read) (xs ++ ys)) both
  register_of_both xs ys r s both is is_r is_s =
      subst (IsRegister order (filter_map (stamped read) (xs ++ ys))) (sym is)
      (subst (λ l. IsRegister order l (option_joined (ord_max order) r s)) (sym (filter_map-append (stamped read) xs ys)) (IsRegister-append exact_order _ _ r s is_r is_s))

-- the operations of both add up to the join of the two
pub state_of_both : (xs ys : List Operation) (a b : Change) → IsStateOf xs a → IsStateOf ys b
    → IsStateOf (xs ++ ys) (change_joined a b)
state_of_both xs ys a b is_a is_b = record {
  merged = ap (λ m. m || b.merged) is_a.merged ∙ ap (λ m. list_any (λ op. merges op.deed) xs || m) is_b.merged
      ∙ sym (list_any-append (λ op. merges op.deed) xs ys);
  life = register_of_both life_order_exact life_in xs ys a.life b.life _ refl is_a.life is_b.life;
  sets = λ set. register_of_both patch_order_exact (commit_in set) xs ys _ _ _
      (get-map_joined numbers_exact (ord_max patch_order) a.sets b.sets set) (is_a.sets set) (is_b.sets set);
  votes = λ slot. register_of_both vote_order_exact (score_in slot) xs ys _ _ _
      (get-map_joined slots_exact (ord_max vote_order) a.votes b.votes slot) (is_a.votes slot) (is_b.votes slot);
}

-- no operation adds up to nothing
pub state_of_none : IsStateOf [] no_change
state_of_none = record {
  merged = refl;
  life = refl;
  sets = λ set. subst (IsRegister patch_order []) (sym (map.get-empty _ set)) refl;
  votes = λ slot. subst (IsRegister vote_order []) (sym (map.get-empty _ slot)) refl;
}

-- operations add up to one state
pub state_of_unique : (xs : List Operation) (a b : Change) → IsStateOf xs a → IsStateOf xs b → a ≡ b
state_of_unique xs a b is_a is_b =
    let merged : a.merged ≡ b.merged = is_a.merged ∙ sym is_b.merged in
    let life : a.life ≡ b.life = IsRegister-unique life_order_exact _ a.life b.life is_a.life is_b.life in
    let sets : a.sets ≡ b.sets = same_at_each_key numbers_exact a.sets b.sets (λ set. IsRegister-unique patch_order_exact _ _ _ (is_a.sets set) (is_b.sets set)) in
    let votes : a.votes ≡ b.votes = same_at_each_key slots_exact a.votes b.votes (λ slot. IsRegister-unique vote_order_exact _ _ _ (is_a.votes slot) (is_b.votes slot)) in
    λ i. record { merged = merged i; life = life i; sets = sets i; votes = votes i }

-- ---- the state of one operation
module _ {T : Type 0} {order : Timestamp × T → Timestamp × T → Ordering} (exact_order : IsExactOrder order)
    (read : Deed → Option T) where
  register_of_one : (op : Operation) (r : Option (Timestamp × T)) → r ≡ stamped read op
      → IsRegister order (filter_map (stamped read) (op ∷ [])) r
  register_of_one op r is =
      subst (IsRegister order (filter_map (stamped read) (op ∷ []))) (sym is)
      (elim (stamped read op) as (λ o. IsRegister order (cons_option o []) o) [
        | None ↦ refl
        | Some written ↦ IsRegister-one exact_order written
      ])

with_stamp-test : {T : Type 0} (stamp : Timestamp) (value : T) (test : Bool)
    → cond test (Some (stamp, value)) None ≡ with_stamp stamp (cond test (Some value) None)
with_stamp-test stamp value true = refl
with_stamp-test stamp value false = refl

commit_read : (set : ℕ) (stamp : Timestamp) (deed : Deed)
    → map.get (effect_by stamp deed).sets set ≡ with_stamp stamp (commit_in set deed)
commit_read set stamp (patch_set change number message parent) =
    map.get-insert numbers_exact.total map.empty number _ set
    ∙ ap (cond (same_set set number) (Some _)) (map.get-empty _ set) ∙ with_stamp-test stamp _ (same_set set number)
commit_read set stamp (vote change number label voter value) = map.get-empty _ set
commit_read set stamp (withdraw change number label voter) = map.get-empty _ set
commit_read set stamp (abandon change) = map.get-empty _ set
commit_read set stamp (restore change) = map.get-empty _ set
commit_read set stamp (merged change) = map.get-empty _ set

score_read : (slot : Slot) (stamp : Timestamp) (deed : Deed)
    → map.get (effect_by stamp deed).votes slot ≡ with_stamp stamp (score_in slot deed)
score_read slot stamp (patch_set change number message parent) = map.get-empty _ slot
score_read slot stamp (vote change number label voter value) =
    map.get-insert slots_exact.total map.empty _ _ slot ∙ ap (cond (same_slot slot _) (Some _)) (map.get-empty _ slot)
    ∙ with_stamp-test stamp value _
score_read slot stamp (withdraw change number label voter) =
    map.get-insert slots_exact.total map.empty _ _ slot ∙ ap (cond (same_slot slot _) (Some _)) (map.get-empty _ slot)
    ∙ with_stamp-test stamp (pos 0) _
score_read slot stamp (abandon change) = map.get-empty _ slot
score_read slot stamp (restore change) = map.get-empty _ slot
score_read slot stamp (merged change) = map.get-empty _ slot

life_read : (stamp : Timestamp) (deed : Deed) → (effect_by stamp deed).life ≡ with_stamp stamp (life_in deed)
life_read stamp (patch_set change number message parent) = refl
life_read stamp (vote change number label voter value) = refl
life_read stamp (withdraw change number label voter) = refl
life_read stamp (abandon change) = refl
life_read stamp (restore change) = refl
life_read stamp (merged change) = refl

merge_read : (stamp : Timestamp) (deed : Deed) → (effect_by stamp deed).merged ≡ (merges deed || false)
merge_read stamp (patch_set change number message parent) = refl
merge_read stamp (vote change number label voter value) = refl
merge_read stamp (withdraw change number label voter) = refl
merge_read stamp (abandon change) = refl
merge_read stamp (restore change) = refl
merge_read stamp (merged change) = refl

-- one operation adds up to its effect
pub state_of_one : (op : Operation) → IsStateOf (op ∷ []) (effect_of op)
state_of_one op = record {
  merged = merge_read op.stamp op.deed;
  life = register_of_one life_order_exact life_in op _ (life_read op.stamp op.deed);
  sets = λ set. register_of_one patch_order_exact (commit_in set) op _ (commit_read set op.stamp op.deed);
  votes = λ slot. register_of_one vote_order_exact (score_in slot) op _ (score_read slot op.stamp op.deed);
}

-- ---- neither order nor repeats count
module _ {X Y : Type 0} (read : X → Option Y) where
  what_was_read : (xs : List X) (y : Y) → Contains (filter_map read xs) y → (x : X) × Contains xs x × (read x ≡ Some y)
  what_was_read [] y (k, l, e) = absurd (omega arith)
  what_was_read (z ∷ xs) y h =
      elim (read z) as (λ o. read z ≡ o → Contains (cons_option o (filter_map read xs)) y → (x : X) × Contains (z ∷ xs) x × (read x ≡ Some y)) [
        | None ↦ λ e g. let r = what_was_read xs y g in (r.0, Contains-append_right (z ∷ []) xs r.0 r.1, r.2)
        | Some w ↦ λ e g. elim (Contains-cons_cases w (filter_map read xs) y g) [
          | inl same ↦ (z, (0, omega arith, refl), e ∙ ap Some same)
          | inr later ↦ let r = what_was_read xs y later in (r.0, Contains-append_right (z ∷ []) xs r.0 r.1, r.2)
        ]
      ] refl h

  what_reads : (xs : List X) (x : X) (y : Y) → Contains xs x → read x ≡ Some y → Contains (filter_map read xs) y
  what_reads [] x y (k, l, e) reads = absurd (omega arith)
  what_reads (z ∷ xs) x y h reads =
      elim (Contains-cons_cases z xs x h) [
        | inl same ↦ subst (λ o. Contains (cons_option o (filter_map read xs)) y) (sym (ap read same ∙ reads))
            (0, omega arith, refl)
        | inr later ↦ elim (read z) as (λ o. Contains (cons_option o (filter_map read xs)) y) [
          | None ↦ what_reads xs x y later reads
          | Some w ↦ Contains-append_right (w ∷ []) (filter_map read xs) y (what_reads xs x y later reads)
        ]
      ]

  read_alike : (xs ys : List X) → ((x : X) → Contains xs x → Contains ys x) → (y : Y) → Contains (filter_map read xs) y
      → Contains (filter_map read ys) y
  read_alike xs ys there y h = let r = what_was_read xs y h in what_reads ys r.0 y (there r.0 r.1) r.2

module _ {X : Type 0} (test : X → Bool) where
  what_passed : (xs : List X) → list_any test xs ≡ true → (x : X) × Contains xs x × (test x ≡ true)
  what_passed [] e = absurd (false≢true e)
  what_passed (z ∷ xs) e =
      elim (test z) as (λ t. test z ≡ t → (t || list_any test xs) ≡ true → (x : X) × Contains (z ∷ xs) x × (test x ≡ true)) [
        | true ↦ λ is h. (z, (0, omega arith, refl), is)
        | false ↦ λ is h. let r = what_passed xs h in (r.0, Contains-append_right (z ∷ []) xs r.0 r.1, r.2)
      ] refl e

  passes : (xs : List X) (x : X) → Contains xs x → test x ≡ true → list_any test xs ≡ true
  passes [] x (k, l, e) is = absurd (omega arith)
  passes (z ∷ xs) x h is =
      elim (Contains-cons_cases z xs x h) [
        | inl same ↦ ap (λ t. t || list_any test xs) (ap test same ∙ is)
        | inr later ↦ elim (test z) as
            (λ t. (t || list_any test xs) ≡ true) [ true ↦ refl | false ↦ passes xs x later is ]
      ]

  some_alike : (xs ys : List X) → ((x : X) → Contains xs x → Contains ys x) → list_any test xs ≡ true
      → list_any test ys ≡ true
  some_alike xs ys there e = let r = what_passed xs e in passes ys r.0 (there r.0 r.1) r.2

  pub any_alike : (xs ys : List X) → ((x : X) → Contains xs x → Contains ys x)
      → ((x : X) → Contains ys x → Contains xs x) → list_any test xs ≡ list_any test ys
  any_alike xs ys there back =
      elim (list_any test xs) as (λ t. list_any test xs ≡ t → t ≡ list_any test ys) [
        | true ↦ λ e. sym (some_alike xs ys there e)
        | false ↦ λ e. sym (false_from_ne_true _ (λ h. false≢true (sym e ∙ some_alike ys xs back h)))
      ] refl

-- the same operations, in whatever order and however often, add up to the same state
pub state_of_same : (xs ys : List Operation) (change : Change) → ((op : Operation) → Contains xs op → Contains ys op)
    → ((op : Operation) → Contains ys op → Contains xs op) → IsStateOf xs change → IsStateOf ys change
state_of_same xs ys change there back is = record {
  merged = is.merged ∙ any_alike (λ op. merges op.deed) xs ys there back;
  life = IsRegister-same life_order _ _ change.life (read_alike (stamped life_in) xs ys there)
      (read_alike (stamped life_in) ys xs back) is.life;
  sets = λ set. IsRegister-same patch_order _ _ _ (read_alike (stamped (commit_in set)) xs ys there)
      (read_alike (stamped (commit_in set)) ys xs back) (is.sets set);
  votes = λ slot. IsRegister-same vote_order _ _ _ (read_alike (stamped (score_in slot)) xs ys there)
      (read_alike (stamped (score_in slot)) ys xs back) (is.votes slot);
}

-- nothing is least
pub no_change-joined : (change : Change) → change_joined no_change change ≡ change
no_change-joined change i = record {
  merged = change.merged;
  life = change.life;
  sets = empty-map_joined numbers_exact (ord_max patch_order) change.sets i;
  votes = empty-map_joined slots_exact (ord_max vote_order) change.votes i;
}
