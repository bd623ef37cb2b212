-- Of what the claims of a line speak, and what the record says of each once the line is met.
use Rattle.std.specs.Prelude.{◌≡◌, ℕ, List, [], ◌∷◌, ◌++◌, false}
use Rattle.std.proofs.Common.{refl, sym, ap, ◌∙◌, subst, inl, inr}
use Rattle.review_ops.specs.Deed.{Deed, kept_deed, withdraw}
use Rattle.review_ops.specs.Fault.{IsFaultless-HasFault}
use Rattle.review_ops.specs.Good.{IsFaultless, IsGood}
use Rattle.change_core.specs.Slots.{Slot}
use Rattle.state_core.specs.State.{State}
use Rattle.gerrit_events.specs.Claims.{Claim, drafts, shows, lists, refuses}
use Rattle.gerrit_events.specs.Listings.{Listing}
use Rattle.gerrit_events.specs.Reading.{ClaimsAreSettled, IsSettled as Settles}
use Rattle.gerrit_events.specs.declared.fault.EventFault.TheVariants.{BadEvent, Dropped}
use Rattle.gerrit_events.specs.declared.finding.Finding.{Finding}
use Rattle.gerrit_events.specs.declared.finding.Finding.TheVariants.{Brings, Shows, Lists, Refuses}
use Rattle.event_filter.specs.Bringing.{IsSaidByRecord, is_listed_vote}
use Rattle.event_filter.specs.Recorded.{IsRecorded}
use Rattle.event_filter.specs.Truth.{AgreesWith, AgreesWithAll, OneSpeaksOf, DeedPlace, SpeaksOf, place_written, score_place}

-- a claim says something of what is there, once it is settled
abbrev pub ClaimSpeaks : Claim → DeedPlace → Type 0
ClaimSpeaks (drafts deed) place = place_written (kept_deed deed) ≡ place
ClaimSpeaks (shows deed) place = place_written (kept_deed deed) ≡ place
ClaimSpeaks (lists listing) place = (slot : Slot) × (slot.set ≡ listing.set) × (score_place listing.change slot ≡ place)
ClaimSpeaks (refuses fault) place = ⊥

-- whatever the claims speak of is such a place
abbrev pub Only : (DeedPlace → Type 0) → Claim → Type 0
Only P claim = (place : DeedPlace) → ClaimSpeaks claim place → P place

abbrev pub AllOnly : (DeedPlace → Type 0) → List Claim → Type 0
AllOnly P [] = Unit {0}
AllOnly P (claim ∷ claims) = Only P claim × AllOnly P claims

pub only_append : (P : DeedPlace → Type 0) (xs ys : List Claim) → AllOnly P xs → AllOnly P ys → AllOnly P (xs ++ ys)
only_append P [] ys first second = second
only_append P (x ∷ xs) ys first second = (first.0, only_append P xs ys first.1 second)

pub only_weaker : (P Q : DeedPlace → Type 0) → ((place : DeedPlace) → P place → Q place) → (claims : List Claim)
    → AllOnly P claims → AllOnly Q claims
only_weaker P Q weaker [] all = tt
only_weaker P Q weaker (claim ∷ claims) all =
    (λ place speaks. weaker place (all.0 place speaks), only_weaker P Q weaker claims all.1)

-- ---- a claim and what is found for it

spoken : (claim : Claim) (finding : Finding) (place : DeedPlace) → Settles claim finding → SpeaksOf finding place
    → ClaimSpeaks claim place
spoken (drafts deed) (Brings body) place settled speaks = sym (ap place_written settled.1) ∙ speaks
spoken (drafts deed) (Refuses fault) place settled speaks = absurd speaks
spoken (drafts deed) (Shows body) place settled speaks = absurd settled
spoken (drafts deed) (Lists listing) place settled speaks = absurd settled
spoken (shows deed) (Shows body) place settled speaks = sym (ap place_written settled.1) ∙ speaks
spoken (shows deed) (Refuses fault) place settled speaks = absurd speaks
spoken (shows deed) (Brings body) place settled speaks = absurd settled
spoken (shows deed) (Lists listing) place settled speaks = absurd settled
spoken (lists listing) (Lists found) place settled speaks =
    (speaks.0, speaks.1 ∙ ap (λ l. l.set) settled, ap (λ l. score_place l.change speaks.0) (sym settled) ∙ speaks.2)
spoken (lists listing) (Brings body) place settled speaks = absurd settled
spoken (lists listing) (Shows body) place settled speaks = absurd settled
spoken (lists listing) (Refuses fault) place settled speaks = absurd settled
spoken (refuses fault) (Brings body) place settled speaks = absurd settled
spoken (refuses fault) (Shows body) place settled speaks = absurd settled
spoken (refuses fault) (Lists listing) place settled speaks = absurd settled
spoken (refuses fault) (Refuses found) place settled speaks = absurd speaks

-- where no claim speaks of a place, no finding does
pub unspoken : (P : DeedPlace → Type 0) (claims : List Claim) (findings : List Finding) (place : DeedPlace)
    → ClaimsAreSettled claims findings → AllOnly P claims → ¬ P place → ¬ OneSpeaksOf findings place
unspoken P [] [] place settled only apart speaks = absurd speaks
unspoken P [] (finding ∷ findings) place settled only apart speaks = absurd settled
unspoken P (claim ∷ claims) [] place settled only apart speaks = absurd settled
unspoken P (claim ∷ claims) (finding ∷ findings) place settled only apart speaks = elim speaks [
  | inl here ↦ absurd (apart (only.0 place (spoken claim finding place settled.0 here)))
  | inr later ↦ unspoken P claims findings place settled.1 only.1 apart later
]

-- ---- a claim among others

record At (claim : Claim) (after : List Claim) (state : State) : Type 0 where
  finding : Finding
  later : List Finding
  here : Settles claim finding
  rest : ClaimsAreSettled after later
  agrees : AgreesWith finding later state

at_claim : (before : List Claim) (claim : Claim) (after : List Claim) (findings : List Finding) (state : State)
    → ClaimsAreSettled (before ++ claim ∷ after) findings → AgreesWithAll findings state → At claim after state
at_claim [] claim after [] state settled all = absurd settled
at_claim [] claim after (finding ∷ later) state settled all =
    record { finding = finding; later = later; here = settled.0; rest = settled.1; agrees = all.0 }
at_claim (other ∷ before) claim after [] state settled all = absurd settled
at_claim (other ∷ before) claim after (finding ∷ later) state settled all =
    at_claim before claim after later state settled.1 all.1

draft_found : (deed : Deed) (finding : Finding) → IsFaultless deed → Settles (drafts deed) finding
    → (body : Deed) × (finding ≡ Brings body) × (body ≡ kept_deed deed)
draft_found deed (Brings body) good settled = (body, refl, settled.1)
draft_found deed (Shows body) good settled = absurd settled
draft_found deed (Lists listing) good settled = absurd settled
draft_found deed (Refuses (BadEvent key)) good settled =
    absurd (IsFaultless-HasFault settled.0 deed good settled.1.has)
draft_found deed (Refuses Dropped) good settled = absurd settled

-- what is said of a deed without faults, where nothing later speaks of the same
pub draft_said : (before : List Claim) (deed : Deed) (after : List Claim) (findings : List Finding) (state : State)
    (P : DeedPlace → Type 0) → ClaimsAreSettled (before ++ drafts deed ∷ after) findings → AgreesWithAll findings state
    → IsFaultless deed → AllOnly P after → ¬ P (place_written (kept_deed deed)) → IsSaidByRecord state (kept_deed deed)
draft_said before deed after findings state P settled all good only apart =
    let at = at_claim before (drafts deed) after findings state settled all in
    let body = draft_found deed at.finding good at.here in
    let says = subst (λ finding. AgreesWith finding at.later state) body.1 at.agrees in
    subst (IsSaidByRecord state) body.2
    (says (subst (λ d. ¬ OneSpeaksOf at.later (place_written d)) (sym body.2) (unspoken P after at.later (place_written (kept_deed deed)) at.rest only apart)))

listing_says : (listing : Listing) (finding : Finding) (later : List Finding) (state : State) (label voter : List ℕ)
    → Settles (lists listing) finding → AgreesWith finding later state
    → IsGood (withdraw listing.change listing.set label voter) → is_listed_vote listing.ballots label voter ≡ false
    → ¬ OneSpeaksOf later (place_written (withdraw listing.change listing.set label voter))
    → IsRecorded state (withdraw listing.change listing.set label voter)
listing_says listing (Brings body) later state label voter settled agrees good unlisted apart = absurd settled
listing_says listing (Shows body) later state label voter settled agrees good unlisted apart = absurd settled
listing_says listing (Refuses fault) later state label voter settled agrees good unlisted apart = absurd settled
listing_says listing (Lists found) later state label voter settled agrees good unlisted apart =
    let says : (l : Listing) → Type 0 = λ l. IsGood (withdraw l.change l.set label voter)
    → is_listed_vote l.ballots label voter ≡ false → ¬ OneSpeaksOf later (place_written (withdraw l.change l.set label voter))
    → IsRecorded state (withdraw l.change l.set label voter) in
    subst says settled (agrees label voter) good unlisted apart

-- who isn't listed has no score, where nothing later speaks of it
pub unlisted_said : (before : List Claim) (listing : Listing) (after : List Claim) (findings : List Finding)
    (state : State) (P : DeedPlace → Type 0) → ClaimsAreSettled (before ++ lists listing ∷ after) findings
    → AgreesWithAll findings state → (label voter : List ℕ)
    → IsGood (withdraw listing.change listing.set label voter) → is_listed_vote listing.ballots label voter ≡ false
    → AllOnly P after → ¬ P (place_written (withdraw listing.change listing.set label voter))
    → IsRecorded state (withdraw listing.change listing.set label voter)
unlisted_said before listing after findings state P settled all label voter good unlisted only apart =
    let at = at_claim before (lists listing) after findings state settled all in
    listing_says listing at.finding at.later state label voter at.here at.agrees good unlisted
    (unspoken P after at.later (place_written (withdraw listing.change listing.set label voter)) at.rest only apart)
