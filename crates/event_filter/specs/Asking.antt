-- The changes of which too little is known, so that Gerrit has to be asked (Gerrit, "stream-events", shows the change
-- of an event alone).
use Rattle.std.specs.Prelude.{◌≡◌, ◌≢◌, ◌⊎◌, ◌↔◌, ◌<◌, ℕ, List, Bool, true, false, Option, Some, None, Contains}
use Rattle.std.specs.BTreeSet.{BTreeSet, contains}
use Rattle.std.specs.List.{list_any}
use Rattle.std.specs.Ordering.{nat_cmp}
use Rattle.footer_text.specs.Footers.{MessageNeeds}
use Rattle.review_ops.specs.Deed.{Deed, patch_set, vote, withdraw, restore, change_of}
use Rattle.change_core.specs.Change.{Change}
use Rattle.change_core.specs.Views.{IsGreatestKnown, parent_of, status_of}
use Rattle.change_core.specs.declared.life.Status.TheVariants.{New, Abandoned}
use Rattle.state_core.specs.Known.{IsKnown, IsMerged}
use Rattle.state_core.specs.State.{State}
use Rattle.gerrit_events.specs.Reading.{ParsedLine}
use Rattle.gerrit_events.specs.declared.finding.Finding.{Finding}
use Rattle.gerrit_events.specs.declared.finding.Finding.TheVariants.{Brings, Shows, Lists, Refuses}
use Rattle.gerrit_events.specs.declared.part.Part.{Part}
use Rattle.gerrit_events.specs.declared.part.Part.TheVariants.{Event, Row}
use Rattle.event_filter.specs.Recorded.{IsRecorded, change_at, patch_at}

-- the record has nothing of the change: no patch set, and no merge
abbrev pub IsUnknown : State → ℕ → Type 0
IsUnknown state number = (¬ IsKnown state number) × (¬ IsMerged state number)

-- a message names the change, by one of these bases
abbrev pub IsNamedByMessage : Option (List (List ℕ)) → ℕ → List ℕ → ℕ → Type 0
IsNamedByMessage None change message number = ⊥
IsNamedByMessage (Some bases) change message number = MessageNeeds bases change message number

-- a commit's parent, or what its message needs, is unknown
abbrev pub LacksNeeded : State → Option (List (List ℕ)) → Deed → ℕ → Type 0
LacksNeeded state bases (patch_set change set message parent) number =
    ((parent ≡ Some number) ⊎ IsNamedByMessage bases change message number) × (number ≢ change) × IsUnknown state number
LacksNeeded state bases deed number = ⊥

-- the change has a later patch set
abbrev pub IsReplaced : Change → ℕ → Type 0
IsReplaced change set = (current : ℕ) × IsGreatestKnown change current × (set < current)

-- the record lacks the patch set; or it has the restored change as abandoned; or it lacks the vote, or the withdrawal,
-- on a replaced patch set: Gerrit may copy such a vote to the current one ("copyCondition" of a label), and shows it on
-- the replaced one alone
abbrev pub IsNew : State → Deed → Type 0
IsNew state (patch_set change set message parent) = patch_at (change_at state change) set ≡ None
IsNew state (restore change) = status_of (change_at state change) ≡ Abandoned
IsNew state (vote change set label voter value) =
    IsReplaced (change_at state change) set × ¬ IsRecorded state (vote change set label voter value)
IsNew state (withdraw change set label voter) =
    IsReplaced (change_at state change) set × ¬ IsRecorded state (withdraw change set label voter)
IsNew state deed = ⊥

-- the parent of its current patch set is this change
abbrev pub HasParent : Change → ℕ → Type 0
HasParent change parent = (set : ℕ) × IsGreatestKnown change set × (parent_of change set ≡ Some parent)

-- an open change, by its current patch set, has this change as its parent
abbrev pub IsChild : Change → ℕ → Type 0
IsChild change parent = (status_of change ≡ New) × HasParent change parent

-- the deed's patch set, which isn't its change's first, may outdate this change, of which no event says so
abbrev pub IsOutdated : State → Deed → ℕ → Type 0
IsOutdated state (patch_set change set message parent) number = (1 < set) × IsChild (change_at state number) change
IsOutdated state deed number = ⊥

-- the deed's patch set is replaced
abbrev pub IsReplacedSet : State → Deed → Type 0
IsReplacedSet state (patch_set change set message parent) = IsReplaced (change_at state change) set
IsReplacedSet state deed = ⊥

-- the deed's patch set isn't replaced, and may outdate this change: a query may have brought it before its event came,
-- and the change as it was before
abbrev pub IsLeftBehind : State → Deed → ℕ → Type 0
IsLeftBehind state deed number = (¬ IsReplacedSet state deed) × IsOutdated state deed number

-- what is new is asked for itself, for what it lacks and for what it may outdate
abbrev pub IsAskedByNews : State → Option (List (List ℕ)) → Deed → ℕ → Type 0
IsAskedByNews state bases deed number =
    IsNew state deed
    × ((number ≡ change_of deed) ⊎ (LacksNeeded state bases deed number ⊎ IsOutdated state deed number))

-- no vote is shown, where the record has one: whether it was taken back only Gerrit can say
abbrev pub IsDoubtful : State → Deed → Type 0
IsDoubtful state (withdraw change set label voter) = ¬ IsRecorded state (withdraw change set label voter)
IsDoubtful state deed = ⊥

-- an event asks by what is new in it, for a change that it leaves in doubt, for those that its patch set may outdate,
-- whoever brought that, and for a change of which something is lost
abbrev pub IsAskedByEvent : State → Option (List (List ℕ)) → Option ℕ → Finding → ℕ → Type 0
IsAskedByEvent state bases change (Brings deed) number = IsAskedByNews state bases deed number
IsAskedByEvent state bases change (Shows deed) number =
    (IsAskedByNews state bases deed number ⊎ (IsDoubtful state deed × (number ≡ change_of deed)))
    ⊎ IsLeftBehind state deed number
IsAskedByEvent state bases change (Lists listing) number = ⊥
IsAskedByEvent state bases change (Refuses fault) number = change ≡ Some number

-- a row's patch set is asked for what it lacks
abbrev pub IsAskedByRow : State → Option (List (List ℕ)) → Finding → ℕ → Type 0
IsAskedByRow state bases (Brings deed) number = LacksNeeded state bases deed number
IsAskedByRow state bases finding number = ⊥

-- the row says that its change is open
abbrev pub is_restore : Deed → Bool
is_restore (restore change) = true
is_restore deed = false

abbrev pub says_open : Finding → Bool
says_open (Brings deed) = is_restore deed
says_open finding = false

abbrev pub IsAskedBy : State → Option (List (List ℕ)) → Part → Bool → Finding → ℕ → Type 0
IsAskedBy state bases (Event change) is_open finding number = IsAskedByEvent state bases change finding number
IsAskedBy state bases (Row change) true finding number = IsAskedByRow state bases finding number
IsAskedBy state bases part is_open finding number = ⊥

-- one of these findings asks for the change
abbrev pub AskFor : State → Option (List (List ℕ)) → Part → Bool → List Finding → ℕ → Type 0
AskFor state bases part is_open findings number =
    (finding : Finding) × Contains findings finding × IsAskedBy state bases part is_open finding number

-- what is asked for when a line is met; of a row that doesn't say that its change is open, nothing
abbrev pub AsksFor : State → Option (List (List ℕ)) → ParsedLine → ℕ → Type 0
AsksFor state bases parsed number =
    AskFor state bases parsed.part (list_any says_open parsed.findings) parsed.findings number

-- a set gains just these numbers; for private clauses
abbrev pub Gains : (ℕ → Type 0) → BTreeSet ℕ → BTreeSet ℕ → Type 0
Gains P old new =
    (number : ℕ) → (contains nat_cmp new number ≡ true) ↔ ((contains nat_cmp old number ≡ true) ⊎ P number)
