-- What a finding brings to a record: what the record doesn't say of it.
use Rattle.std.specs.Prelude.{◌≡◌, ◌⊎◌, ◌≤◌, ℕ, List, [], ◌∷◌, ◌++◌, Option, Some, None, Bool, ◌&&◌, not, map}
use Rattle.std.specs.List.{filter, list_any}
use Rattle.std.specs.Str.{bytes_eq}
use Rattle.review_ops.specs.Deed.{Deed, patch_set, withdraw, kept_deed}
use Rattle.review_ops.specs.Good.{IsFaultless}
use Rattle.change_core.specs.Change.{Change}
use Rattle.change_core.specs.Slots.{Patch}
use Rattle.change_core.specs.Views.{IsKnownSet}
use Rattle.change_core.specs.Votes.{GivenApproval, approvals_of}
use Rattle.state_core.specs.State.{State}
use Rattle.gerrit_events.specs.Listings.{Ballot, Listing, listing_shown}
use Rattle.gerrit_events.specs.declared.finding.Finding.{Finding}
use Rattle.gerrit_events.specs.declared.finding.Finding.TheVariants.{Brings, Shows, Lists, Refuses}
use Rattle.event_filter.specs.Recorded.{IsRecorded, change_at, patch_at}
use Rattle.event_filter.specs.Newest.{IsOpenTo}

-- the record says it, or could not say it: a merged change stays merged
abbrev pub IsSaidByRecord : State → Deed → Type 0
IsSaidByRecord state deed = IsRecorded state deed ⊎ ¬ IsOpenTo state deed

-- ---- a patch set that an event shows

-- of one that the record has without a parent, the parent is new, where the event knows it and shows the commit that the
-- record has; one that the record hasn't is new, unless a later one is known, whose message it is then
abbrev pub AddsTo : Change → ℕ → Option Patch → List ℕ → Option ℕ → Type 0
AddsTo change set None message parent = (later : ℕ) → IsKnownSet change later → later ≤ set
AddsTo change set (Some held) message None = ⊥
AddsTo change set (Some held) message (Some parent) = (held.message ≡ message) × (held.parent ≡ None)

-- the record lacks the patch set that is shown, or the parent that is shown of it
abbrev pub IsNews : State → Deed → Type 0
IsNews state (patch_set change set message parent) =
    AddsTo (change_at state change) set (patch_at (change_at state change) set) message parent
IsNews state deed = ⊥

-- ---- all votes of a patch set

abbrev pub is_ballot_of : List ℕ → List ℕ → Ballot → Bool
is_ballot_of label voter ballot = bytes_eq ballot.label label && bytes_eq ballot.voter voter

abbrev pub is_listed_vote : List Ballot → List ℕ → List ℕ → Bool
is_listed_vote ballots label voter = list_any (is_ballot_of label voter) ballots

abbrev pub is_unlisted : List Ballot → GivenApproval → Bool
is_unlisted ballots approval = not (is_listed_vote ballots approval.label approval.voter)

abbrev pub withdrawal : ℕ → ℕ → GivenApproval → Deed
withdrawal change set approval = withdraw change set approval.label approval.voter

-- a withdrawal of each vote on the patch set that isn't listed
abbrev pub beyond : Change → Listing → List Deed
beyond change listing =
    map (withdrawal listing.change listing.set)
    (filter (is_unlisted listing.ballots) (approvals_of change listing.set))

-- the bodies of deeds, in order; a deed with a fault has none
abbrev pub AreBodies : List Deed → List Deed → Type 0
AreBodies [] bodies = bodies ≡ []
AreBodies (deed ∷ deeds) bodies =
    ((rest : List Deed) × IsFaultless deed × (bodies ≡ kept_deed deed ∷ rest) × AreBodies deeds rest)
    ⊎ ((¬ IsFaultless deed) × AreBodies deeds bodies)

-- the body of one more deed is added
abbrev pub AddsDeed : Deed → List Deed → List Deed → Type 0
AddsDeed deed old new =
    (IsFaultless deed × (new ≡ old ++ kept_deed deed ∷ [])) ⊎ ((¬ IsFaultless deed) × (new ≡ old))

-- ---- any finding

-- a deed, where this is so, and else none
abbrev pub Where : Type 0 → List Deed → Deed → Type 0
Where is bodies deed = (is × (bodies ≡ deed ∷ [])) ⊎ ((¬ is) × (bodies ≡ []))

-- none, where this is so, and else a deed
abbrev pub Unless : Type 0 → List Deed → Deed → Type 0
Unless is bodies deed = (is × (bodies ≡ [])) ⊎ ((¬ is) × (bodies ≡ deed ∷ []))

-- the bodies that are brought of a finding: what the record doesn't say yet
abbrev pub IsBrought : State → Finding → List Deed → Type 0
IsBrought state (Brings deed) bodies = Unless (IsSaidByRecord state deed) bodies deed
IsBrought state (Shows deed) bodies = Where (IsNews state deed) bodies deed
IsBrought state (Lists listing) bodies = AreBodies (beyond (change_at state listing.change) (listing_shown listing)) bodies
IsBrought state (Refuses fault) bodies = bodies ≡ []
