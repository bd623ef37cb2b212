-- What lowers an item is processed before everything else of a line. The order is the project's own.
use Rattle.std.specs.Prelude.{◌≡◌, pos, int_lt, Bool, true, false, not, List, [], ◌∷◌, ◌++◌, map, filter}
use Rattle.review_ops.specs.Deed.{Deed, change_of, patch_set, vote, withdraw, abandon, restore, merged}
use Rattle.change_core.specs.Change.{Change}
use Rattle.change_core.specs.Views.{status_of}
use Rattle.change_core.specs.declared.life.Status.{Status}
use Rattle.change_core.specs.declared.life.Status.TheVariants.{New, Abandoned, Merged}
use Rattle.state_core.specs.State.{State}
use Rattle.gerrit_events.specs.Listings.{listing_shown}
use Rattle.gerrit_events.specs.declared.finding.Finding.{Finding}
use Rattle.gerrit_events.specs.declared.finding.Finding.TheVariants.{Brings, Shows, Lists, Refuses}
use Rattle.event_filter.specs.Bringing.{AreBodies, beyond}
use Rattle.event_filter.specs.Recorded.{change_at, score_at}

abbrev pub is_new_status : Status → Bool
is_new_status New = true
is_new_status Abandoned = false
is_new_status Merged = false

-- a vote below its voter's score, the withdrawal of a score above 0, and an abandon of an open change
abbrev pub lowers_change : Change → Deed → Bool
lowers_change c (patch_set change set message parent) = false
lowers_change c (vote change set label voter value) =
    int_lt value (score_at c (record { set = set; label = label; voter = voter }))
lowers_change c (withdraw change set label voter) =
    int_lt (pos 0) (score_at c (record { set = set; label = label; voter = voter }))
lowers_change c (abandon change) = is_new_status (status_of c)
lowers_change c (restore change) = false
lowers_change c (merged change) = false

-- the deed lowers what the record says
abbrev pub lowers : State → Deed → Bool
lowers state deed = lowers_change (change_at state (change_of deed)) deed

-- the bodies of a finding that lower what the record says: of a listing, those among the withdrawals of what it doesn't
-- list
abbrev pub AreLowering : State → Finding → List Deed → Type 0
AreLowering state (Brings deed) bodies = bodies ≡ filter (lowers state) (deed ∷ [])
AreLowering state (Shows deed) bodies = bodies ≡ []
AreLowering state (Lists listing) bodies =
    (gone : List Deed) × AreBodies (beyond (change_at state listing.change) (listing_shown listing)) gone
    × (bodies ≡ filter (lowers state) gone)
AreLowering state (Refuses fault) bodies = bodies ≡ []

-- those of all findings of a line, in order
abbrev pub AreAllLowering : State → List Finding → List Deed → Type 0
AreAllLowering state [] bodies = bodies ≡ []
AreAllLowering state (finding ∷ findings) bodies =
    (first rest : List Deed) × AreLowering state finding first × AreAllLowering state findings rest
    × (bodies ≡ first ++ rest)

-- the bodies that lower what the record says, and then all findings
abbrev pub ArePutInOrder : State → List Finding → List Finding → Type 0
ArePutInOrder state findings met =
    (bodies : List Deed) × AreAllLowering state findings bodies × (met ≡ map Brings bodies ++ findings)

-- ---- a line of an answer, of which the rest waits until the answer is whole

abbrev pub is_loss : Finding → Bool
is_loss (Brings deed) = false
is_loss (Shows deed) = false
is_loss (Lists listing) = false
is_loss (Refuses fault) = true

-- what is processed at once: the bodies that lower what the record says, and the losses of the line
abbrev pub AreFirst : State → List Finding → List Finding → Type 0
AreFirst state findings first =
    (bodies : List Deed) × AreAllLowering state findings bodies × (first ≡ map Brings bodies ++ filter is_loss findings)

-- and what waits
abbrev pub AreParted : State → List Finding → List Finding → List Finding → Type 0
AreParted state findings first later =
    AreFirst state findings first × (later ≡ filter (λ finding. not (is_loss finding)) findings)
