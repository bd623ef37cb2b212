-- What a record says once it has met what was found in a line.
use Rattle.std.specs.Prelude.{◌≡◌, ◌⊎◌, ℕ, List, [], ◌∷◌, false}
use Rattle.review_ops.specs.Deed.{Deed, patch_set, vote, withdraw, abandon, restore, merged}
use Rattle.review_ops.specs.Good.{IsGood}
use Rattle.review_ops.specs.Timestamp.{Timestamp}
use Rattle.change_core.specs.Slots.{Slot}
use Rattle.state_core.specs.State.{State, with_effect}
use Rattle.gerrit_events.specs.Listings.{listing_shown}
use Rattle.gerrit_events.specs.declared.finding.Finding.{Finding}
use Rattle.gerrit_events.specs.declared.finding.Finding.TheVariants.{Brings, Shows, Lists, Refuses}
use Rattle.event_filter.specs.Bringing.{IsBrought, IsNews, IsSaidByRecord, beyond, is_listed_vote}
use Rattle.event_filter.specs.Newest.{IsNewest}
use Rattle.event_filter.specs.Recorded.{IsRecorded, change_at}

-- ---- what is found is met

-- deeds are taken in, one after the other, each under a stamp above all that was written where it is written
abbrev pub AreTakenIn : State → List Deed → State → Type 0
AreTakenIn state [] new = new ≡ state
AreTakenIn state (deed ∷ deeds) new =
    (stamp : Timestamp) × IsNewest state (record { stamp = stamp; deed = deed })
    × AreTakenIn (with_effect state (record { stamp = stamp; deed = deed })) deeds new

-- findings are met, one after the other: what each brings to the record of then is taken in
abbrev pub AreMet : State → List Finding → State → Type 0
AreMet state [] new = new ≡ state
AreMet state (finding ∷ findings) new =
    (deeds : List Deed) × (mid : State) × IsBrought state finding deeds × AreTakenIn state deeds mid
    × AreMet mid findings new

-- ---- what is said

-- where a deed is written: the commit of a patch set, a voter's score on a label, or the status
pub data DeedPlace : Type 0 where
  patch_place : (change set : ℕ) → DeedPlace
  score_place : (change : ℕ) (slot : Slot) → DeedPlace
  status_place : (change : ℕ) → DeedPlace

abbrev pub place_written : Deed → DeedPlace
place_written (patch_set change set message parent) = patch_place change set
place_written (vote change set label voter value) =
    score_place change (record { set = set; label = label; voter = voter })
place_written (withdraw change set label voter) =
    score_place change (record { set = set; label = label; voter = voter })
place_written (abandon change) = status_place change
place_written (restore change) = status_place change
place_written (merged change) = status_place change

-- a finding says something of what is there; a listing says something of all scores of its patch set
abbrev pub SpeaksOf : Finding → DeedPlace → Type 0
SpeaksOf (Brings deed) place = place_written deed ≡ place
SpeaksOf (Shows deed) place = place_written deed ≡ place
SpeaksOf (Lists listing) place =
    (slot : Slot) × (slot.set ≡ listing.set) × (score_place listing.change slot ≡ place)
SpeaksOf (Refuses fault) place = ⊥

abbrev pub OneSpeaksOf : List Finding → DeedPlace → Type 0
OneSpeaksOf [] place = ⊥
OneSpeaksOf (finding ∷ findings) place = SpeaksOf finding place ⊎ OneSpeaksOf findings place

-- the record says of a change what a finding says of it, where no later one speaks of the same: a deed is recorded, or
-- it is an abandon or a restore of a merged change; a patch set that an event shows is nothing new; and who isn't listed
-- has no score
abbrev pub AgreesWith : Finding → List Finding → State → Type 0
AgreesWith (Brings deed) later state = ¬ OneSpeaksOf later (place_written deed) → IsSaidByRecord state deed
AgreesWith (Shows deed) later state = ¬ OneSpeaksOf later (place_written deed) → ¬ IsNews state deed
AgreesWith (Lists listing) later state =
    (label voter : List ℕ) → IsGood (withdraw listing.change listing.set label voter)
    → is_listed_vote (listing_shown listing).ballots label voter ≡ false
    → ¬ OneSpeaksOf later (place_written (withdraw listing.change listing.set label voter))
    → IsRecorded state (withdraw listing.change listing.set label voter)
AgreesWith (Refuses fault) later state = Unit {0}

abbrev pub AgreesWithAll : List Finding → State → Type 0
AgreesWithAll [] state = Unit {0}
AgreesWithAll (finding ∷ later) state = AgreesWith finding later state × AgreesWithAll later state

-- ---- what is nothing new

abbrev pub IsNothingNew : State → Finding → Type 0
IsNothingNew state (Brings deed) = IsSaidByRecord state deed
IsNothingNew state (Shows deed) = ¬ IsNews state deed
IsNothingNew state (Lists listing) = beyond (change_at state listing.change) (listing_shown listing) ≡ []
IsNothingNew state (Refuses fault) = Unit {0}

abbrev pub AreNothingNew : State → List Finding → Type 0
AreNothingNew state [] = Unit {0}
AreNothingNew state (finding ∷ findings) = IsNothingNew state finding × AreNothingNew state findings
