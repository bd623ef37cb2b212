-- The numbers and names of faults, which are the project's own, and the keys that they name: those of Gerrit's
-- attributes ("JSON Data").
use Rattle.std.specs.Prelude.{ℕ, List, Option, Some, None, codes}
use Rattle.review_ops.specs.declared.fault.BodyFault.{BodyFault}
use Rattle.review_ops.specs.declared.fault.BodyFault.TheVariants as body
use Rattle.gerrit_events.specs.declared.fault.EventFault.{EventFault}
use Rattle.gerrit_events.specs.declared.fault.EventFault.TheVariants.{BadEvent, Dropped}
use Rattle.gerrit_events.specs.declared.fault.EventKey.{EventKey}
use Rattle.gerrit_events.specs.declared.fault.EventKey.TheVariants.{Line, TypeName, Change, PatchSet, CommitMessage}
use Rattle.gerrit_events.specs.declared.fault.EventKey.TheVariants.{Parents, Author, Reviewer, By, Username, Value}
use Rattle.gerrit_events.specs.declared.fault.EventKey.TheVariants.{Number, CurrentPatchSet, PatchSets, DependsOn}
use Rattle.gerrit_events.specs.declared.fault.EventKey.TheVariants.{Status}

abbrev pub number_of : EventFault → ℕ
number_of (BadEvent key) = 1
number_of Dropped = 2

abbrev pub name_of : EventFault → List ℕ
name_of (BadEvent key) = codes "BadEvent"
name_of Dropped = codes "Dropped"

abbrev pub named_key : EventFault → Option EventKey
named_key (BadEvent key) = Some key
named_key Dropped = None

abbrev pub text_of : EventKey → List ℕ
text_of Line = codes "line"
text_of TypeName = codes "type"
text_of Change = codes "change"
text_of PatchSet = codes "patchSet"
text_of CommitMessage = codes "commitMessage"
text_of Parents = codes "parents"
text_of Author = codes "author"
text_of Reviewer = codes "reviewer"
text_of By = codes "by"
text_of Username = codes "username"
text_of Value = codes "value"
text_of Number = codes "number"
text_of CurrentPatchSet = codes "currentPatchSet"
text_of PatchSets = codes "patchSets"
text_of DependsOn = codes "dependsOn"
text_of Status = codes "status"

-- the key whose value makes a body one that isn't good
abbrev pub event_key_of : BodyFault → EventKey
event_key_of body.BadChange = Change
event_key_of body.BadSet = PatchSet
event_key_of body.BadLabel = TypeName
event_key_of body.BadVoter = Username
event_key_of body.LongMessage = CommitMessage
event_key_of body.BadParent = Parents
