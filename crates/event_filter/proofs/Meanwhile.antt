-- While the bodies of a line are taken in, what lowers the record first, nothing is above both what it was and what it
-- becomes.
use Rattle.std.specs.Prelude.{◌≡◌, ◌≢◌, ◌⊎◌, ◌≤ℤ◌, ℕ, ℤ, pos, int_lt, true, false, cond}
use Rattle.std.specs.Prelude.{List, [], ◌∷◌, ◌++◌, map, filter}
use Rattle.std.specs.Ordering.{nat_cmp, eq_by_cmp}
use Rattle.std.proofs.Common.{refl, sym, ap, ◌∙◌, subst, inl, inr, arith}
use Rattle.std.proofs.lemmas.Bool.{false≢true}
use Rattle.std.proofs.lemmas.Int.{ints}
use Rattle.lattice_core.specs.Exact.{same_by_test, test_of_same}
use Rattle.lattice_core.specs.Keep.{numbers_exact}
use Rattle.review_ops.specs.Deed.{Deed, patch_set, vote, withdraw, abandon, restore, merged}
use Rattle.review_ops.specs.Operation.{Operation}
use Rattle.review_ops.specs.Timestamp.{Timestamp}
use Rattle.change_core.specs.Slots.{Slot}
use Rattle.change_core.specs.Views.{status_of}
use Rattle.change_core.specs.declared.life.Status.TheVariants.{New, Abandoned, Merged}
use Rattle.state_core.specs.State.{State, with_effect}
use Rattle.gerrit_events.specs.declared.finding.Finding.{Finding}
use Rattle.gerrit_events.specs.declared.finding.Finding.TheVariants.{Brings, Shows, Lists, Refuses}
use Rattle.event_filter.specs.Lowering.{AreAllLowering, AreLowering, lowers}
use Rattle.event_filter.specs.Meanwhile.{EachElsewhere, NothingIsAboveBoth, NothingIsRaised, OneWrites}
use Rattle.event_filter.specs.Newest.{IsNewest}
use Rattle.event_filter.specs.Recorded.{change_at, score_at}
use Rattle.event_filter.specs.Truth.{AreMet, AreTakenIn, DeedPlace, patch_place, place_written, score_place, status_place}
use Rattle.event_filter.proofs.After.{said_after}
use Rattle.event_filter.proofs.Frames.{score_stays_apart, status_stays_apart}
use Rattle.event_filter.proofs.Truth.{same_or_not, settled_now}

-- ---- places, one or not

number_or_not : (m n : ℕ) → (m ≡ n) ⊎ (m ≢ n)
number_or_not m n = elim (eq_by_cmp nat_cmp m n) as (λ t. eq_by_cmp nat_cmp m n ≡ t → (m ≡ n) ⊎ (m ≢ n)) [
  | true ↦ λ e. inl (same_by_test numbers_exact m n e)
  | false ↦ λ e. inr (λ same. false≢true (sym e ∙ ap (eq_by_cmp nat_cmp m) (sym same) ∙ test_of_same numbers_exact m))
] refl

score_or_not : (m n : ℕ) (a b : Slot) → (score_place m a ≡ score_place n b) ⊎ (score_place m a ≢ score_place n b)
score_or_not m n a b = elim (number_or_not m n) [
  | inl same ↦ elim (same_or_not a b) [
    | inl slot ↦ inl (ap (λ k. score_place k a) same ∙ ap (score_place n) slot)
    | inr other ↦ inr (λ is. other cc)
  ]
  | inr other ↦ inr (λ is. other cc)
]

status_or_not : (m n : ℕ) → (status_place m ≡ status_place n) ⊎ (status_place m ≢ status_place n)
status_or_not m n = elim (number_or_not m n) [
  | inl same ↦ inl (ap status_place same)
  | inr other ↦ inr (λ is. other cc)
]

at_score : (change : ℕ) (slot : Slot) (deed : Deed)
    → (place_written deed ≡ score_place change slot) ⊎ (place_written deed ≢ score_place change slot)
at_score change slot (patch_set number set message parent) = inr (λ is. cc)
at_score change slot (vote number set label voter value) =
    score_or_not number change (record { set = set; label = label; voter = voter }) slot
at_score change slot (withdraw number set label voter) =
    score_or_not number change (record { set = set; label = label; voter = voter }) slot
at_score change slot (abandon number) = inr (λ is. cc)
at_score change slot (restore number) = inr (λ is. cc)
at_score change slot (merged number) = inr (λ is. cc)

at_status : (change : ℕ) (deed : Deed)
    → (place_written deed ≡ status_place change) ⊎ (place_written deed ≢ status_place change)
at_status change (patch_set number set message parent) = inr (λ is. cc)
at_status change (vote number set label voter value) = inr (λ is. cc)
at_status change (withdraw number set label voter) = inr (λ is. cc)
at_status change (abandon number) = status_or_not number change
at_status change (restore number) = status_or_not number change
at_status change (merged number) = status_or_not number change

-- ---- what lowers the record

below : (value score now : ℤ) → int_lt value score ≡ true → now ≡ value → now ≤ℤ score
below value score now less is = subst (λ z. z ≤ℤ score) (sym is) (omega (arith, ints))

module _ (old state : State) (stamp : Timestamp) where
  -- what is written in this place isn't raised
  abbrev Lowered : Deed → DeedPlace → Type 0
  Lowered deed (patch_place change set) = Unit {0}
  Lowered deed (score_place change slot) =
      score_at (change_at (with_effect state (record { stamp = stamp; deed = deed })) change) slot ≤ℤ score_at (change_at old change) slot
  Lowered deed (status_place change) =
      status_of (change_at (with_effect state (record { stamp = stamp; deed = deed })) change) ≢ New

  lowered : (deed : Deed) → lowers old deed ≡ true → IsNewest state (record { stamp = stamp; deed = deed })
      → Lowered deed (place_written deed)
  lowered (patch_set change set message parent) does newest = tt
  lowered (vote change set label voter value) does newest =
      below value _ _ does (said_after state (record { stamp = stamp; deed = vote change set label voter value }) newest tt)
  lowered (withdraw change set label voter) does newest =
      below (pos 0) _ _ does (said_after state (record { stamp = stamp; deed = withdraw change set label voter }) newest tt)
  lowered (abandon change) does newest = λ is_open. elim (settled_now state stamp (abandon change) newest) [
    | inl said ↦ let is : New ≡ Abandoned = sym is_open ∙ said in cc
    | inr moot ↦ absurd (moot (λ is. let now : New ≡ Merged = sym is_open ∙ is in cc))
  ]
  lowered (restore change) does newest = absurd (false≢true does)
  lowered (merged change) does newest = absurd (false≢true does)

  lowers_on : (deed : Deed) → lowers old deed ≡ true → IsNewest state (record { stamp = stamp; deed = deed })
      → NothingIsRaised old state → NothingIsRaised old (with_effect state (record { stamp = stamp; deed = deed }))
  lowers_on deed does newest before = record {
    scores = λ change slot. elim (at_score change slot deed) [
      | inl here ↦ subst (Lowered deed) here (lowered deed does newest)
      | inr apart ↦
          subst (λ z. z ≤ℤ score_at (change_at old change) slot)
          (sym (score_stays_apart state (record { stamp = stamp; deed = deed }) change slot apart)) (before.scores change slot)
    ];
    opened = λ change is_open. elim (at_status change deed) [
      | inl here ↦ absurd (subst (Lowered deed) here (lowered deed does newest) is_open)
      | inr apart ↦
          before.opened change (sym (status_stays_apart state (record { stamp = stamp; deed = deed }) change apart) ∙ is_open)
    ];
  }

nothing_yet : (state new : State) → new ≡ state → NothingIsRaised state new
nothing_yet state new same =
    subst (NothingIsRaised state) (sym same)
    (record { scores = λ change slot. omega (arith, ints); opened = λ change is_open. is_open })

abbrev AllLower : State → List Deed → Type 0
AllLower old [] = Unit {0}
AllLower old (deed ∷ deeds) = (lowers old deed ≡ true) × AllLower old deeds

all_taken : (old : State) (deeds : List Deed) (state new : State) → AllLower old deeds → NothingIsRaised old state
    → AreTakenIn state deeds new → NothingIsRaised old new
all_taken old [] state new all before same = subst (NothingIsRaised old) (sym same) before
all_taken old (deed ∷ deeds) state new all before taken =
    all_taken old deeds (with_effect state (record { stamp = taken.0; deed = deed })) new all.1
    (lowers_on old state taken.0 deed all.0 taken.1 before) taken.2

-- ---- the bodies that are put first

those_lower : (old : State) (deeds : List Deed) → AllLower old (filter (lowers old) deeds)
those_lower old [] = tt
those_lower old (deed ∷ deeds) =
    elim (lowers old deed) as (λ t. lowers old deed ≡ t → AllLower old (cond t (deed ∷ filter (lowers old) deeds) (filter (lowers old) deeds))) [
      | true ↦ λ does. (does, those_lower old deeds)
      | false ↦ λ does. those_lower old deeds
    ] refl

both_lower : (old : State) (ones others : List Deed) → AllLower old ones → AllLower old others
    → AllLower old (ones ++ others)
both_lower old [] others these those = those
both_lower old (deed ∷ ones) others these those = (these.0, both_lower old ones others these.1 those)

first_lower : (old : State) (ones others : List Deed) → AllLower old (ones ++ others) → AllLower old ones
first_lower old [] others all = tt
first_lower old (deed ∷ ones) others all = (all.0, first_lower old ones others all.1)

of_finding : (old : State) (finding : Finding) (bodies : List Deed) → AreLowering old finding bodies → AllLower old bodies
of_finding old (Brings deed) bodies are = subst (AllLower old) (sym are) (those_lower old (deed ∷ []))
of_finding old (Shows deed) bodies none = subst (AllLower old) (sym none) tt
of_finding old (Lists listing) bodies are = subst (AllLower old) (sym are.2) (those_lower old are.0)
of_finding old (Refuses fault) bodies none = subst (AllLower old) (sym none) tt

of_findings : (old : State) (findings : List Finding) (bodies : List Deed) → AreAllLowering old findings bodies
    → AllLower old bodies
of_findings old [] bodies none = subst (AllLower old) (sym none) tt
of_findings old (finding ∷ findings) bodies all =
    subst (AllLower old) (sym all.4)
    (both_lower old all.0 all.1 (of_finding old finding all.0 all.2) (of_findings old findings all.1 all.3))

met_first : (old : State) (bodies : List Deed) (state mid : State) → AllLower old bodies → NothingIsRaised old state
    → AreMet state (map Brings bodies) mid → NothingIsRaised old mid
met_first old [] state mid all before same = subst (NothingIsRaised old) (sym same) before
met_first old (deed ∷ bodies) state mid all before met =
    met_first old bodies met.1 mid all.1
    (elim met.2 [
      | inl none ↦ all_taken old [] state met.1 tt before (subst (λ ds. AreTakenIn state ds met.1) none.1 met.3)
      | inr one ↦
          all_taken old (deed ∷ []) state met.1 (all.0, tt) before (subst (λ ds. AreTakenIn state ds met.1) one.1 met.3)
    ])
    met.4

pub raises_nothing : (state mid : State) (findings : List Finding) (bodies seen left : List Deed)
    → AreAllLowering state findings bodies → bodies ≡ seen ++ left → AreMet state (map Brings seen) mid
    → NothingIsRaised state mid
raises_nothing state mid findings bodies seen left all are met =
    met_first state seen state mid
    (first_lower state seen left (subst (AllLower state) are (of_findings state findings bodies all)))
    (nothing_yet state state refl) met

-- ---- the bodies after these

later_writes : (ones others : List Deed) (place : DeedPlace) → OneWrites others place → OneWrites (ones ++ others) place
later_writes [] others place one = one
later_writes (deed ∷ ones) others place one = inr (later_writes ones others place one)

module _ {Y : Type 0} (view : State → Y) (place : DeedPlace)
    (stays : (state : State) (op : Operation) → place_written op.deed ≢ place → view (with_effect state op) ≡ view state)
    (here_or_not : (deed : Deed) → (place_written deed ≡ place) ⊎ (place_written deed ≢ place)) where
  unwritten : (deeds : List Deed) (state new : State) → ¬ OneWrites deeds place → AreTakenIn state deeds new
      → view new ≡ view state
  unwritten [] state new none same = ap view same
  unwritten (deed ∷ deeds) state new none taken =
      unwritten deeds (with_effect state (record { stamp = taken.0; deed = deed })) new (λ one. none (inr one)) taken.2
      ∙ stays state (record { stamp = taken.0; deed = deed }) (λ is. none (inl is))

  -- what is seen of a place is what was there before these deeds, or what is there after them
  before_or_after : (seen left : List Deed) (state mid new : State) → EachElsewhere (seen ++ left)
      → AreTakenIn state seen mid → AreTakenIn mid left new → (view mid ≡ view state) ⊎ (view mid ≡ view new)
  before_or_after [] left state mid new apart same rest = inl (ap view same)
  before_or_after (deed ∷ seen) left state mid new apart taken rest = elim (here_or_not deed) [
    | inl here ↦ inr
        (sym (unwritten left mid new
        (λ one. subst (λ p. ¬ OneWrites (seen ++ left) p) here apart.0 (later_writes seen left place one)) rest))
    | inr other ↦ elim (before_or_after seen left (with_effect state (record { stamp = taken.0; deed = deed })) mid new apart.1 taken.2 rest) [
      | inl same ↦ inl (same ∙ stays state (record { stamp = taken.0; deed = deed }) other)
      | inr is ↦ inr is
    ]
  ]

pub above_neither : (old before mid new : State) (seen left : List Deed) → NothingIsRaised old before
    → EachElsewhere (seen ++ left) → AreTakenIn before seen mid → AreTakenIn mid left new
    → NothingIsAboveBoth old mid new
above_neither old before mid new seen left raised apart taken rest = record {
  scores = λ change slot. elim (before_or_after (λ s. score_at (change_at s change) slot) (score_place change slot) (λ s op. score_stays_apart s op change slot) (at_score change slot) seen left before mid new apart taken rest) [
    | inl same ↦ inl
        (subst (λ z. z ≤ℤ score_at (change_at old change) slot) (sym same) (raised.scores change slot))
    | inr is ↦ inr is
  ];
  opened = λ change is_open. elim (before_or_after (λ s. status_of (change_at s change)) (status_place change) (λ s op. status_stays_apart s op change) (at_status change) seen left before mid new apart taken rest) [
    | inl same ↦ inl (raised.opened change (sym same ∙ is_open))
    | inr is ↦ inr (sym is ∙ is_open)
  ];
}
