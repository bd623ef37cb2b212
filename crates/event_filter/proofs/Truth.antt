-- What a record says once it has met what was found in a line.
use Rattle.std.specs.Prelude.{◌≡◌, ◌≢◌, ◌⊎◌, ◌==◌, ◌||◌, ℕ, ℤ, pos, true, false, not, List, [], ◌∷◌}
use Rattle.std.specs.Prelude.{if◌then◌else◌, Option, None, Some, Contains, map}
use Rattle.std.specs.Char.{to_ascii_lowercase}
use Rattle.std.specs.FinMap.{entries, get}
use Rattle.std.specs.List.{filter}
use Rattle.std.specs.Ordering.{int_eq, eq_by_cmp}
use Rattle.std.proofs.Common.{refl, sym, ap, ◌∙◌, subst, inl, inr}
use Rattle.std.proofs.lemmas.Bool.{eq-eqb, false≢true}
use Rattle.lattice_core.specs.EntryLaws.{entry-get}
use Rattle.lattice_core.specs.Exact.{same_by_test, test_of_same}
use Rattle.lattice_core.specs.Keep.{integers_exact}
use Rattle.lattice_core.specs.MemberLaws.{Contains-cons_cases, Contains-first, Contains-later, Contains-none}
use Rattle.lattice_core.specs.MemberLaws.{Contains-to_filter, Contains-to_map}
use Rattle.review_ops.specs.Deed.{Deed, change_of, patch_set, vote, withdraw, abandon, restore, merged}
use Rattle.review_ops.specs.Good.{IsFaultless-IsGood, IsGood}
use Rattle.review_ops.specs.Operation.{Operation}
use Rattle.review_ops.specs.Timestamp.{Timestamp}
use Rattle.change_core.specs.Change.{Change, change_joined, effect_of}
use Rattle.change_core.specs.Slots.{Patch, Slot, slot_cmp, slots_exact}
use Rattle.change_core.specs.Views.{IsKnownSet, status_by, status_of}
use Rattle.change_core.specs.Votes.{GivenApproval, GivenVote, approval_of, approvals_of, vote_at, votes_of}
use Rattle.change_core.specs.declared.life.Life.{Life}
use Rattle.change_core.specs.declared.life.Life.TheVariants as life
use Rattle.change_core.specs.declared.life.Status.TheVariants.{Merged}
use Rattle.state_core.specs.State.{State, with_effect}
use Rattle.gerrit_events.specs.Listings.{Listing, listing_shown}
use Rattle.gerrit_events.specs.declared.finding.Finding.{Finding}
use Rattle.gerrit_events.specs.declared.finding.Finding.TheVariants.{Brings, Shows, Lists, Refuses}
use Rattle.event_filter.specs.Bringing.{AddsTo, AreBodies, IsBrought, IsNews, IsSaidByRecord, beyond, is_listed_vote, is_unlisted}
use Rattle.event_filter.specs.Bringing.{withdrawal}
use Rattle.event_filter.specs.Newest.{IsNewest}
use Rattle.event_filter.specs.Recorded.{IsRecorded, change_at, patch_at, score_by}
use Rattle.event_filter.specs.Truth.{AgreesWithAll, AreMet, AreNothingNew, AreTakenIn, IsNothingNew}
use Rattle.event_filter.specs.Truth.{OneSpeaksOf, DeedPlace, SpeaksOf, place_written, score_place, status_place}
use Rattle.event_filter.proofs.After.{said_after}
use Rattle.event_filter.proofs.Frames.{known_after, patch_stays_apart, score_stays_apart, seen_apart, status_stays_apart}

-- ---- what is settled stays so, where nothing is written in its place

moot_stays : (state : State) (op : Operation) (change : ℕ) → place_written op.deed ≢ status_place change
    → ¬ (status_of (change_at state change) ≢ Merged) → ¬ (status_of (change_at (with_effect state op) change) ≢ Merged)
moot_stays state op change apart moot open_now =
    moot (λ is. open_now (status_stays_apart state op change apart ∙ is))

pub settled_stays : (state : State) (op : Operation) (deed : Deed) → place_written op.deed ≢ place_written deed
    → IsSaidByRecord state deed → IsSaidByRecord (with_effect state op) deed
settled_stays state op (patch_set change set message parent) apart settled = elim settled [
  | inl said ↦ inl (patch_stays_apart state op change set apart ∙ said)
  | inr moot ↦ inr moot
]
settled_stays state op (vote change set label voter value) apart settled = elim settled [
  | inl said ↦ inl (score_stays_apart state op change _ apart ∙ said)
  | inr moot ↦ inr moot
]
settled_stays state op (withdraw change set label voter) apart settled = elim settled [
  | inl said ↦ inl (score_stays_apart state op change _ apart ∙ said)
  | inr moot ↦ inr moot
]
settled_stays state op (abandon change) apart settled = elim settled [
  | inl said ↦ inl (status_stays_apart state op change apart ∙ said)
  | inr moot ↦ inr (moot_stays state op change apart moot)
]
settled_stays state op (restore change) apart settled = elim settled [
  | inl said ↦ inl (status_stays_apart state op change apart ∙ said)
  | inr moot ↦ inr (moot_stays state op change apart moot)
]
settled_stays state op (merged change) apart settled = elim settled [
  | inl said ↦ inl (status_stays_apart state op change apart ∙ said)
  | inr moot ↦ inr moot
]

-- ---- what is taken in is settled

never_merged_by : (held : Option (Timestamp × Life)) → status_by held ≢ Merged
never_merged_by None e = cc
never_merged_by (Some (stamp, life.Abandoned)) e = cc
never_merged_by (Some (stamp, life.Restored)) e = cc

merged_one : (c : Change) → c.merged ≡ true → status_of c ≡ Merged
merged_one c is = ap (λ b. if b then Merged else status_by c.life) is

stays_merged : (c effect : Change) → c.merged ≡ true → status_of (change_joined c effect) ≡ status_of c
stays_merged c effect is =
    ap (λ b. if b || effect.merged then Merged else status_by (change_joined c effect).life) is ∙ sym (merged_one c is)

-- an abandon or a restore says what it says, or finds a merged change
either_life : {A : Type 0} (state : State) (op : Operation) → (status_of (change_at state (change_of op.deed)) ≢ Merged → A)
    → A ⊎ ¬ (status_of (change_at (with_effect state op) (change_of op.deed)) ≢ Merged)
either_life {A} state op said =
    let c = change_at state (change_of op.deed) in
    elim c.merged as (λ b. c.merged ≡ b → A ⊎ ¬ (status_of (change_at (with_effect state op) (change_of op.deed)) ≢ Merged)) [
      | true ↦ λ is. inr
          (λ open_now. open_now
          (seen_apart status_of state op (change_of op.deed) (λ same. stays_merged c (effect_of op) is) ∙ merged_one c is))
      | false ↦ λ is. inl
          (said (λ final. never_merged_by c.life (sym (ap (λ b. if b then Merged else status_by c.life) is) ∙ final)))
    ] refl

pub settled_now : (state : State) (stamp : Timestamp) (deed : Deed)
    → IsNewest state (record { stamp = stamp; deed = deed })
    → IsSaidByRecord (with_effect state (record { stamp = stamp; deed = deed })) deed
settled_now state stamp (patch_set change set message parent) newest =
    inl (said_after state (record { stamp = stamp; deed = patch_set change set message parent }) newest tt)
settled_now state stamp (vote change set label voter value) newest =
    inl (said_after state (record { stamp = stamp; deed = vote change set label voter value }) newest tt)
settled_now state stamp (withdraw change set label voter) newest =
    inl (said_after state (record { stamp = stamp; deed = withdraw change set label voter }) newest tt)
settled_now state stamp (abandon change) newest =
    either_life state (record { stamp = stamp; deed = abandon change })
    (said_after state (record { stamp = stamp; deed = abandon change }) newest)
settled_now state stamp (restore change) newest =
    either_life state (record { stamp = stamp; deed = restore change })
    (said_after state (record { stamp = stamp; deed = restore change }) newest)
settled_now state stamp (merged change) newest =
    inl (said_after state (record { stamp = stamp; deed = merged change }) newest tt)

-- ---- through deeds, and through findings

abbrev AllApart : List Deed → DeedPlace → Type 0
AllApart [] place = Unit {0}
AllApart (deed ∷ deeds) place = (place_written deed ≢ place) × AllApart deeds place

kept_through : (deeds : List Deed) (state new : State) (deed : Deed) → AllApart deeds (place_written deed)
    → AreTakenIn state deeds new → IsSaidByRecord state deed → IsSaidByRecord new deed
kept_through [] state new deed apart same settled = subst (λ s. IsSaidByRecord s deed) (sym same) settled
kept_through (other ∷ deeds) state new deed apart taken settled =
    kept_through deeds (with_effect state (record { stamp = taken.0; deed = other })) new deed apart.1 taken.2
    (settled_stays state (record { stamp = taken.0; deed = other }) deed apart.0 settled)

-- a listing's withdrawals are of its patch set
withdrawals_apart : (listing : Listing) (approvals : List GivenApproval) (bodies : List Deed) (place : DeedPlace)
    → AreBodies (map (withdrawal listing.change listing.set) approvals) bodies
    → ¬ ((slot : Slot) × (slot.set ≡ listing.set) × (score_place listing.change slot ≡ place)) → AllApart bodies place
withdrawals_apart listing [] bodies place none unspoken = subst (λ ds. AllApart ds place) (sym none) tt
withdrawals_apart listing (approval ∷ approvals) bodies place are unspoken = elim are [
  | inl kept ↦
      subst (λ ds. AllApart ds place) (sym kept.2)
      (λ same. unspoken (_, refl, same), withdrawals_apart listing approvals kept.0 place kept.3 unspoken)
  | inr faulty ↦ withdrawals_apart listing approvals bodies place faulty.1 unspoken
]

alone_apart : (bodies : List Deed) (deed : Deed) (place : DeedPlace) → bodies ≡ deed ∷ [] → place_written deed ≢ place
    → AllApart bodies place
alone_apart bodies deed place alone apart = subst (λ ds. AllApart ds place) (sym alone) (apart, tt)

none_apart : (bodies : List Deed) (place : DeedPlace) → bodies ≡ [] → AllApart bodies place
none_apart bodies place none = subst (λ ds. AllApart ds place) (sym none) tt

brought_apart : (state : State) (finding : Finding) (bodies : List Deed) (place : DeedPlace) → IsBrought state finding bodies
    → ¬ SpeaksOf finding place → AllApart bodies place
brought_apart state (Brings deed) bodies place brought unspoken = elim brought [
  | inl none ↦ none_apart bodies place none.1
  | inr one ↦ alone_apart bodies deed place one.1 unspoken
]
brought_apart state (Shows deed) bodies place brought unspoken = elim brought [
  | inl one ↦ alone_apart bodies deed place one.1 unspoken
  | inr none ↦ none_apart bodies place none.1
]
brought_apart state (Lists listing) bodies place brought unspoken =
    withdrawals_apart (listing_shown listing)
    (filter (is_unlisted (listing_shown listing).ballots) (approvals_of (change_at state listing.change) listing.set))
    bodies place brought unspoken
brought_apart state (Refuses fault) bodies place none unspoken = none_apart bodies place none

settled_through : (later : List Finding) (state new : State) (deed : Deed) → AreMet state later new
    → ¬ OneSpeaksOf later (place_written deed) → IsSaidByRecord state deed → IsSaidByRecord new deed
settled_through [] state new deed same unspoken settled = subst (λ s. IsSaidByRecord s deed) (sym same) settled
settled_through (finding ∷ later) state new deed met unspoken settled =
    settled_through later met.1 new deed met.4 (λ one. unspoken (inr one))
    (kept_through met.0 state met.1 deed
    (brought_apart state finding met.0 (place_written deed) met.2 (λ speaks. unspoken (inl speaks))) met.3 settled)

-- ---- a deed that is brought

said_brought : (state mid : State) (deed : Deed) (bodies : List Deed) → IsBrought state (Brings deed) bodies
    → AreTakenIn state bodies mid → IsSaidByRecord mid deed
said_brought state mid deed bodies brought taken = elim brought [
  | inl none ↦
      subst (λ s. IsSaidByRecord s deed) (sym (subst (λ ds. AreTakenIn state ds mid) none.1 taken)) none.0
  | inr one ↦
      let alone = subst (λ ds. AreTakenIn state ds mid) one.1 taken in
      subst (λ s. IsSaidByRecord s deed) (sym alone.2) (settled_now state alone.0 deed alone.1)
]

-- ---- a listing

-- two slots, one or not
pub same_or_not : (a b : Slot) → (a ≡ b) ⊎ ¬ (a ≡ b)
same_or_not a b = elim (eq_by_cmp slot_cmp a b) as (λ t. eq_by_cmp slot_cmp a b ≡ t → (a ≡ b) ⊎ ¬ (a ≡ b)) [
  | true ↦ λ e. inl (same_by_test slots_exact a b e)
  | false ↦ λ e. inr
      (λ same. false≢true (sym e ∙ ap (eq_by_cmp slot_cmp a) (sym same) ∙ test_of_same slots_exact a))
] refl

pub one_slot : {change : ℕ} {a b : Slot} → score_place change a ≡ score_place change b → a ≡ b
one_slot e = cc

only_recorded : (state : State) (change set : ℕ) (label voter : List ℕ)
    → IsSaidByRecord state (withdraw change set label voter) → IsRecorded state (withdraw change set label voter)
only_recorded state change set label voter settled = elim settled [
  | inl said ↦ said
  | inr moot ↦ absurd (moot tt)
]

abbrev Withdrawn : ℕ → Slot → Deed
Withdrawn change slot = withdraw change slot.set slot.label slot.voter

-- a score that is 0, or that one of these withdrawals takes back, is 0 after them
zero_after : (slots : List Slot) (state new : State) (change : ℕ) (slot : Slot)
    → AreTakenIn state (map (Withdrawn change) slots) new
    → (IsRecorded state (Withdrawn change slot)) ⊎ Contains slots slot → IsRecorded new (Withdrawn change slot)
zero_after [] state new change slot same given = elim given [
  | inl zero ↦ subst (λ s. IsRecorded s (Withdrawn change slot)) (sym same) zero
  | inr has ↦ absurd (Contains-none slot has)
]
zero_after (first ∷ slots) state new change slot taken given =
    let mid = with_effect state (record { stamp = taken.0; deed = Withdrawn change first }) in
    let now : IsRecorded mid (Withdrawn change first) = said_after state (record { stamp = taken.0; deed = Withdrawn change first }) taken.1 tt in
    zero_after slots mid new change slot taken.2
    (elim (same_or_not first slot) [
      | inl same ↦ inl (subst (λ s. IsRecorded mid (Withdrawn change s)) same now)
      | inr other ↦ elim given [
        | inl zero ↦ inl
            (score_stays_apart state (record { stamp = taken.0; deed = Withdrawn change first }) change slot
            (λ same. other (one_slot same)) ∙ zero)
        | inr has ↦ elim (Contains-cons_cases first slots slot has) [
          | inl same ↦ absurd (other same)
          | inr later ↦ inr later
        ]
      ]
    ])

-- ---- which scores a listing's bodies withdraw

record Withdrawals (change set : ℕ) (approvals : List GivenApproval) (bodies : List Deed) : Type 0 where
  slots : List Slot
  same : bodies ≡ map (Withdrawn change) slots
  has : (approval : GivenApproval) → Contains approvals approval → IsGood (withdrawal change set approval)
      → Contains slots (record { set = set; label = approval.label; voter = approval.voter })

abbrev slot_by : ℕ → GivenApproval → Slot
slot_by set approval = record { set = set; label = approval.label; voter = approval.voter }

withdrawals_of : (change set : ℕ) (approvals : List GivenApproval) (bodies : List Deed)
    → AreBodies (map (withdrawal change set) approvals) bodies → Withdrawals change set approvals bodies
withdrawals_of change set [] bodies none =
    record { slots = []; same = none; has = λ approval has good. absurd (Contains-none approval has) }
withdrawals_of change set (first ∷ approvals) bodies are = elim are [
  | inl kept ↦
      let rest = withdrawals_of change set approvals kept.0 kept.3 in
      let slot : Slot = record { set = set; label = map to_ascii_lowercase first.label; voter = first.voter } in
      record {
        slots = slot ∷ rest.slots;
        same = kept.2 ∙ ap (λ ds. Withdrawn change slot ∷ ds) rest.same;
        has = λ approval has good. elim (Contains-cons_cases first approvals approval has) [
          | inl is ↦
              subst (λ a. Contains (slot ∷ rest.slots) (slot_by set a)) is
              (subst (λ l. Contains (slot ∷ rest.slots) (record { set = set; label = l; voter = first.voter }))
              (subst (λ a. IsGood (withdrawal change set a)) (sym is) good).label.lower (Contains-first slot rest.slots))
          | inr later ↦ Contains-later slot rest.slots (slot_by set approval) (rest.has approval later good)
        ];
      }
  | inr faulty ↦
      let rest = withdrawals_of change set approvals bodies faulty.1 in
      record {
        slots = rest.slots;
        same = rest.same;
        has = λ approval has good. elim (Contains-cons_cases first approvals approval has) [
          | inl is ↦ absurd
              (faulty.0
              (IsFaultless-IsGood (withdrawal change set first) (subst (λ a. IsGood (withdrawal change set a)) (sym is) good)))
          | inr later ↦ rest.has approval later good
        ];
      }
]

zero_or_not : (value : ℤ) → (value ≡ pos 0) ⊎ (not (int_eq value (pos 0)) ≡ true)
zero_or_not value = elim (int_eq value (pos 0)) as (λ t. int_eq value (pos 0) ≡ t → (value ≡ pos 0) ⊎ (not (int_eq value (pos 0)) ≡ true)) [
  | true ↦ λ e. inl (same_by_test integers_exact value (pos 0) e)
  | false ↦ λ e. inr (ap not e)
] refl

-- a score that isn't 0 and isn't listed is among what is beyond
is_beyond : (c : Change) (listing : Listing) (label voter : List ℕ) (stamp : Timestamp) (value : ℤ)
    → get c.votes (record { set = listing.set; label = label; voter = voter }) ≡ Some (stamp, value)
    → not (int_eq value (pos 0)) ≡ true → is_listed_vote listing.ballots label voter ≡ false
    → Contains (filter (is_unlisted listing.ballots) (approvals_of c listing.set))
    (record { label = label; voter = voter; value = value })
is_beyond c listing label voter stamp value found counts unlisted =
    let slot : Slot = record { set = listing.set; label = label; voter = voter } in
    let given : GivenVote = record { label = label; voter = voter; value = value; stamp = stamp } in
    Contains-to_filter (is_unlisted listing.ballots) (approvals_of c listing.set)
    (record { label = label; voter = voter; value = value })
    (Contains-to_map approval_of (filter (λ vote. not (int_eq vote.value (pos 0))) (votes_of c listing.set)) given
    (Contains-to_filter (λ vote. not (int_eq vote.value (pos 0))) (votes_of c listing.set) given
    (Contains-to_map vote_at (filter (λ register. register.0.set == listing.set) (entries c.votes)) (slot, (stamp, value))
    (Contains-to_filter (λ register. register.0.set == listing.set) (entries c.votes) (slot, (stamp, value))
    (entry-get slots_exact c.votes slot (stamp, value) found) (eq-eqb listing.set listing.set refl)))
    counts))
    (ap not unlisted)

listed_now : (state mid : State) (listing : Listing) (bodies : List Deed)
    → AreBodies (beyond (change_at state listing.change) listing) bodies → AreTakenIn state bodies mid
    → (label voter : List ℕ) → IsGood (withdraw listing.change listing.set label voter)
    → is_listed_vote listing.ballots label voter ≡ false
    → IsRecorded mid (withdraw listing.change listing.set label voter)
listed_now state mid listing bodies are taken label voter good unlisted =
    let c = change_at state listing.change in
    let slot : Slot = record { set = listing.set; label = label; voter = voter } in
    let all = withdrawals_of listing.change listing.set (filter (is_unlisted listing.ballots) (approvals_of c listing.set)) bodies are in
    zero_after all.slots state mid listing.change slot (subst (λ ds. AreTakenIn state ds mid) all.same taken)
    (elim (get c.votes slot) as (λ found. get c.votes slot ≡ found → (score_by (get c.votes slot) ≡ pos 0) ⊎ Contains all.slots slot) [
      | None ↦ λ found. inl (ap score_by found)
      | Some register ↦ λ found. elim (zero_or_not register.1) [
        | inl zero ↦ inl (ap score_by found ∙ zero)
        | inr counts ↦ inr
            (all.has (record { label = label; voter = voter; value = register.1 })
            (is_beyond c listing label voter register.0 register.1 found counts unlisted) good)
      ]
    ] refl)

-- ---- a patch set that is shown

-- a commit that the record has, with the parent that is shown, is nothing new
has_all : (c : Change) (set : ℕ) (message : List ℕ) (parent : Option ℕ)
    → ¬ AddsTo c set (Some (record { message = message; parent = parent })) message parent
has_all c set message None news = news
has_all c set message (Some change) news = let none : Some change ≡ None = news.1 in cc

recorded_is_old : (state : State) (change set : ℕ) (message : List ℕ) (parent : Option ℕ)
    → IsRecorded state (patch_set change set message parent) → ¬ IsNews state (patch_set change set message parent)
recorded_is_old state change set message parent said news =
    has_all (change_at state change) set message parent
    (subst (λ p. AddsTo (change_at state change) set p message parent) said news)

-- what is new to a record with more patch sets was so before
less_news : (before after : Change) (set : ℕ) (held : Option Patch) (message : List ℕ) (parent : Option ℕ)
    → ((k : ℕ) → IsKnownSet before k → IsKnownSet after k) → AddsTo after set held message parent
    → AddsTo before set held message parent
less_news before after set None message parent grows news = λ later known. news later (grows later known)
less_news before after set (Some held) message None grows news = news
less_news before after set (Some held) message (Some change) grows news = news

old_stays : (state : State) (op : Operation) (deed : Deed) → place_written op.deed ≢ place_written deed → ¬ IsNews state deed
    → ¬ IsNews (with_effect state op) deed
old_stays state op (patch_set change set message parent) apart old news =
    let after = change_at (with_effect state op) change in
    let same = patch_stays_apart state op change set apart in
    old (less_news (change_at state change) after set (patch_at (change_at state change) set) message parent
    (known_after state op change) (subst (λ p. AddsTo after set p message parent) same news))
old_stays state op (vote change set label voter value) apart old news = news
old_stays state op (withdraw change set label voter) apart old news = news
old_stays state op (abandon change) apart old news = news
old_stays state op (restore change) apart old news = news
old_stays state op (merged change) apart old news = news

old_kept : (deeds : List Deed) (state new : State) (deed : Deed) → AllApart deeds (place_written deed)
    → AreTakenIn state deeds new → ¬ IsNews state deed → ¬ IsNews new deed
old_kept [] state new deed apart same old = subst (λ s. ¬ IsNews s deed) (sym same) old
old_kept (other ∷ deeds) state new deed apart taken old =
    old_kept deeds (with_effect state (record { stamp = taken.0; deed = other })) new deed apart.1 taken.2
    (old_stays state (record { stamp = taken.0; deed = other }) deed apart.0 old)

old_through : (later : List Finding) (state new : State) (deed : Deed) → AreMet state later new
    → ¬ OneSpeaksOf later (place_written deed) → ¬ IsNews state deed → ¬ IsNews new deed
old_through [] state new deed same unspoken old = subst (λ s. ¬ IsNews s deed) (sym same) old
old_through (finding ∷ later) state new deed met unspoken old =
    old_through later met.1 new deed met.4 (λ one. unspoken (inr one))
    (old_kept met.0 state met.1 deed
    (brought_apart state finding met.0 (place_written deed) met.2 (λ speaks. unspoken (inl speaks))) met.3 old)

old_now : (state : State) (stamp : Timestamp) (deed : Deed) → IsNewest state (record { stamp = stamp; deed = deed })
    → ¬ IsNews (with_effect state (record { stamp = stamp; deed = deed })) deed
old_now state stamp (patch_set change set message parent) newest =
    recorded_is_old (with_effect state (record { stamp = stamp; deed = patch_set change set message parent })) change set message parent
    (said_after state (record { stamp = stamp; deed = patch_set change set message parent }) newest tt)
old_now state stamp (vote change set label voter value) newest = λ news. news
old_now state stamp (withdraw change set label voter) newest = λ news. news
old_now state stamp (abandon change) newest = λ news. news
old_now state stamp (restore change) newest = λ news. news
old_now state stamp (merged change) newest = λ news. news

shown_is_old : (state mid : State) (deed : Deed) (bodies : List Deed) → IsBrought state (Shows deed) bodies
    → AreTakenIn state bodies mid → ¬ IsNews mid deed
shown_is_old state mid deed bodies brought taken = elim brought [
  | inl one ↦
      let alone = subst (λ ds. AreTakenIn state ds mid) one.1 taken in
      subst (λ s. ¬ IsNews s deed) (sym alone.2) (old_now state alone.0 deed alone.1)
  | inr none ↦
      subst (λ s. ¬ IsNews s deed) (sym (subst (λ ds. AreTakenIn state ds mid) none.1 taken)) none.0
]

-- ---- all findings

pub agrees : (state new : State) (findings : List Finding) → AreMet state findings new → AgreesWithAll findings new
agrees state new [] met = tt
agrees state new (Brings deed ∷ later) met = (
  λ unspoken. settled_through later met.1 new deed met.4 unspoken (said_brought state met.1 deed met.0 met.2 met.3),
  agrees met.1 new later met.4,
)
agrees state new (Shows deed ∷ later) met = (
  λ unspoken. old_through later met.1 new deed met.4 unspoken (shown_is_old state met.1 deed met.0 met.2 met.3),
  agrees met.1 new later met.4,
)
agrees state new (Lists listing ∷ later) met = (
  λ label voter good unlisted unspoken.
      only_recorded new listing.change listing.set label voter
      (settled_through later met.1 new (withdraw listing.change listing.set label voter) met.4 unspoken
      (inl (listed_now state met.1 (listing_shown listing) met.0 met.2 met.3 label voter good unlisted))),
  agrees met.1 new later met.4,
)
agrees state new (Refuses fault ∷ later) met = (tt, agrees met.1 new later met.4)

-- ---- what is nothing new

brings_nothing : (state : State) (finding : Finding) (bodies : List Deed) → IsNothingNew state finding
    → IsBrought state finding bodies → bodies ≡ []
brings_nothing state (Brings deed) bodies settled brought = elim brought [
  | inl none ↦ none.1
  | inr one ↦ absurd (one.0 settled)
]
brings_nothing state (Shows deed) bodies old brought = elim brought [
  | inl one ↦ absurd (old one.0)
  | inr none ↦ none.1
]
brings_nothing state (Lists listing) bodies none brought = subst (λ deeds. AreBodies deeds bodies) none brought
brings_nothing state (Refuses fault) bodies old brought = brought

pub nothing_taken : (state new : State) (findings : List Finding) → AreNothingNew state findings
    → AreMet state findings new → new ≡ state
nothing_taken state new [] old same = same
nothing_taken state new (finding ∷ findings) old met =
    let none = brings_nothing state finding met.0 old.0 met.2 in
    let same : met.1 ≡ state = subst (λ ds. AreTakenIn state ds met.1) none met.3 in
    nothing_taken state new findings old.1 (subst (λ s. AreMet s findings new) same met.4)
