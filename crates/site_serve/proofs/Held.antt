-- What is held is in the record, stays in it, and is published with it.
use Rattle.std.proofs.Common.{◌≡◌, append-nil, Bool, true, false, List, [], ◌∷◌, ◌++◌, Option, Some, None, Result, Ok, Err}
use Rattle.std.proofs.Common.{IfErr, IfOk, OnOk, OnErr, if◌then◌else◌, get_or, inl, inr, refl, ap, sym, subst, ◌∙◌}
use Rattle.std.proofs.lemmas.Bool.{or_left}
use Rattle.std.proofs.lemmas.List.Elements.{All-nil, All-push}
use Rattle.lattice_core.specs.Exact.{test_of_same}
use Rattle.std.specs.List.{All}
use Rattle.std.specs.Ordering.{eq_by_cmp}
use Rattle.review_ops.specs.Deed.{Deed}
use Rattle.review_ops.specs.Good.{IsFaultless}
use Rattle.review_ops.specs.Operation.{Operation}
use Rattle.review_ops.specs.Timestamp.{Timestamp, timestamp_cmp, timestamps_exact}
use Rattle.replica_core.specs.InOrder.{same_itself}
use Rattle.replica_core.specs.Journal.{has, has_stamp, same_operation}
use Rattle.replica_core.specs.JournalLaws.{IsPartOf, all_arrived-push, has-all_arrived, has-append_cases, has-append_right}
use Rattle.replica_core.specs.JournalLaws.{kept-arrived, one_is, one_passes, part_passes}
use Rattle.site_serve.specs.Acknowledged.{IsHeldBy, IsTakenInto}
use Rattle.site_ledger.specs.Keeping.{Entries}
use Rattle.site_shared.specs.Accounts.{Account, Extent, HasStamp, holding, next_operation, record_of}
use Rattle.site_shared.specs.Publishes.{arrive}
use Rattle.site_shared.specs.declared.fault.DeskFault.{DeskFault}

abbrev is_at : Timestamp → Operation → Bool
is_at stamp op = eq_by_cmp timestamp_cmp op.stamp stamp

pub stamped_part : (journal other : List Operation) → IsPartOf journal other → (stamp : Timestamp)
    → has_stamp journal stamp ≡ true → has_stamp other stamp ≡ true
stamped_part journal other part stamp h = part_passes (is_at stamp) journal other part h

-- what is held comes to the record, which has what it had
pub holding_grows : (account : Account) (op : Operation)
    → IsPartOf (record_of account) (record_of (holding account (op ∷ [])))
holding_grows account op other h =
    ap (λ (j : List Operation). has j other) (all_arrived-push (arrive account.published) account.held op)
    ∙ kept-arrived (record_of account) op other h

holding_has : (account : Account) (op : Operation) → has (record_of (holding account (op ∷ []))) op ≡ true
holding_has account op =
    has-all_arrived (arrive account.published) (account.held ++ op ∷ []) op
    ∙ has-append_right (arrive account.published) (account.held ++ op ∷ []) op
    (has-append_right account.held (op ∷ []) op (or_left (same_operation op op) false (same_itself op)))

pub holding_stamped : (account : Account) (op : Operation)
    → has_stamp (record_of (holding account (op ∷ []))) op.stamp ≡ true
holding_stamped account op = one_passes (is_at op.stamp) (record_of (holding account (op ∷ []))) op
    (holding_has account op) (test_of_same timestamps_exact op.stamp)

-- the same of an account that is equal to that
pub held_stamped : (old new : Account) (op : Operation) (stamp : Timestamp) → new ≡ holding old (op ∷ [])
    → stamp ≡ op.stamp → has_stamp (record_of new) stamp ≡ true
held_stamped old new op stamp is same = ap (λ (a : Account). has_stamp (record_of a) stamp) is
    ∙ (ap (has_stamp (record_of (holding old (op ∷ [])))) same ∙ holding_stamped old op)

pub held_grows : (old new : Account) (op : Operation) → new ≡ holding old (op ∷ [])
    → IsPartOf (record_of old) (record_of new)
held_grows old new op is other h = ap (λ (a : Account). has (record_of a) other) is ∙ holding_grows old op other h

pub same_grows : (old new : Account) → new ≡ old → IsPartOf (record_of old) (record_of new)
same_grows old new is other h = ap (λ (a : Account). has (record_of a) other) is ∙ h

-- the same where a body was held, or was refused
abbrev HoldsDeed : {K : Type 0} → Deed → Entries K → Entries K → Timestamp → Type 0
HoldsDeed deed old new stamp = let op = next_operation old.account deed in
    HasStamp old.account × IsFaultless deed × (new.account ≡ holding old.account (op ∷ [])) × (stamp ≡ op.stamp)

pub body_has : {K E : Type 0} (deed : Deed) (old new : Entries K) (result : Result Timestamp E)
    → IfOk result (HoldsDeed deed old new) → IfOk result (λ stamp. has_stamp (record_of new.account) stamp ≡ true)
body_has deed old new (Ok stamp) ok = held_stamped old.account new.account (next_operation old.account deed) stamp ok.2 ok.3
body_has deed old new (Err fault) ok = tt

pub body_grows : {K E : Type 0} (deed : Deed) (old new : Entries K) (Refuses : E → Type 0) (result : Result Timestamp E)
    → IfOk result (HoldsDeed deed old new) → IfErr result (λ fault. (new ≡ old) × Refuses fault)
    → IsPartOf (record_of old.account) (record_of new.account)
body_grows deed old new Refuses (Ok stamp) ok err =
    held_grows old.account new.account (next_operation old.account deed) ok.2
body_grows deed old new Refuses (Err fault) ok err = same_grows old.account new.account (ap (λ l. l.account) err.0)

chosen_grows : (old new : Account) (op : Operation)
    → new ≡ (if has (record_of old) op then old else holding old (op ∷ [])) → IsPartOf (record_of old) (record_of new)
chosen_grows old new op is = elim (has (record_of old) op) as (λ b. new ≡ (if b then old else holding old (op ∷ [])) → IsPartOf (record_of old) (record_of new)) [
  | true ↦ λ e. same_grows old new e
  | false ↦ λ e. held_grows old new op e
] is

pub new_grows : {K T E : Type 0} (old new : Entries K) (op : Operation) (result : Result T E)
    → OnOk result (new.account ≡ (if has (record_of old.account) op then old.account else holding old.account (op ∷ []))) → OnErr result (new ≡ old) → IsPartOf (record_of old.account) (record_of new.account)
new_grows old new op (Ok v) ok err = chosen_grows old.account new.account op ok
new_grows old new op (Err e) ok err = same_grows old.account new.account (ap (λ l. l.account) err)

chosen_has : (old new : Account) (op : Operation)
    → new ≡ (if has (record_of old) op then old else holding old (op ∷ [])) → has (record_of new) op ≡ true
chosen_has old new op is = elim (has (record_of old) op) as (λ b. has (record_of old) op ≡ b → new ≡ (if b then old else holding old (op ∷ [])) → has (record_of new) op ≡ true) [
  | true ↦ λ e is. ap (λ (a : Account). has (record_of a) op) is ∙ e
  | false ↦ λ e is. ap (λ (a : Account). has (record_of a) op) is ∙ holding_has old op
] refl is

pub new_has : {K T E : Type 0} (old new : Entries K) (op : Operation) (result : Result T E)
    → OnOk result (new.account ≡ (if has (record_of old.account) op then old.account else holding old.account (op ∷ [])))
    → OnOk result (has (record_of new.account) op ≡ true)
new_has old new op (Ok v) ok = chosen_has old.account new.account op ok
new_has old new op (Err e) ok = tt

-- operations of which one more is in the journal
pub one_more_part : (journal ops : List Operation) (op : Operation) → IsPartOf ops journal → has journal op ≡ true
    → IsPartOf (ops ++ op ∷ []) journal
one_more_part journal ops op part one other h = elim (has-append_cases ops (op ∷ []) other h) [
  | inl earlier ↦ part other earlier
  | inr last ↦ ap (has journal) (sym (one_is op other last)) ∙ one
]

-- all operations, once none is left beside those that are in the journal
pub whole_part : (journal ops done left : List Operation) → ops ≡ done ++ left → left ≡ [] → IsPartOf done journal
    → IsPartOf ops journal
whole_part journal ops done left is none part other h =
    part other (ap (λ l. has l other) (sym (is ∙ ap (λ l. done ++ l) none ∙ append-nil done)) ∙ h)

-- what was stamped is in whatever has the journal
pub taken_on : (journal other : List Operation) → IsPartOf journal other → (held : Result (Option Timestamp) DeskFault)
    → IsTakenInto journal held → IsTakenInto other held
taken_on journal other part (Ok None) h = refl
taken_on journal other part (Ok (Some stamp)) h = stamped_part journal other part stamp h
taken_on journal other part (Err fault) h = tt

pub none_waits : {W : Type 0} (P : W → Type 0) (waiters : List W) → waiters ≡ [] → All P waiters
none_waits P waiters none = subst (All P) (sym none) (All-nil P)

-- all who wait, and what was held for each of them
module _ {W : Type 0} (held_of : W → Result (Option Timestamp) DeskFault) where
  pub all_on : (journal other : List Operation) → IsPartOf journal other → (waiters : List W)
      → All (λ w. IsTakenInto journal (held_of w)) waiters → All (λ w. IsTakenInto other (held_of w)) waiters
  all_on journal other part waiters all k d low =
      taken_on journal other part (held_of (get_or waiters k d)) (all k d low)

  pub one_more : (old new : Account) → IsPartOf (record_of old) (record_of new) → (waiters : List W) (waiter : W)
      → All (λ w. IsHeldBy old (held_of w)) waiters → IsHeldBy new (held_of waiter)
      → All (λ w. IsHeldBy new (held_of w)) (waiters ++ waiter ∷ [])
  one_more old new part waiters waiter all one =
      All-push (λ w. IsHeldBy new (held_of w)) waiters waiter
      (all_on (record_of old) (record_of new) part waiters all) one

  pub all_shown : {R E : Type 0} (shows : R → Extent) (account : Account) (published : Result R E)
      → IfOk published (λ r. IsPartOf (record_of account) (arrive (shows r).published)) → (waiters : List W)
      → All (λ w. IsHeldBy account (held_of w)) waiters
      → IfOk published (λ r. All (λ w. IsTakenInto (arrive (shows r).published) (held_of w)) waiters)
  all_shown shows account (Ok r) part waiters all =
      all_on (record_of account) (arrive (shows r).published) part waiters all
  all_shown shows account (Err e) part waiters all = tt
