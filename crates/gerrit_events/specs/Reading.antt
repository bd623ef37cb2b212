-- The findings of a line: its claims, each checked, in order.
use Rattle.std.specs.Prelude.{◌≡◌, ◌⊎◌, ℕ, List, [], ◌∷◌, Option, Some, None, IsUtf8}
use Rattle.std.specs.Prelude.{if◌then◌else◌}
use Rattle.serde_json.specs.Data.{Data, object, Members}
use Rattle.serde_json.specs.Read.{read}
use Rattle.review_ops.specs.declared.fault.BodyFault.{BodyFault}
use Rattle.review_ops.specs.Deed.{Deed, kept_deed}
use Rattle.review_ops.specs.Good.{IsFaultless}
use Rattle.review_ops.specs.Fault.{IsFirstBodyFault}
use Rattle.gerrit_events.specs.declared.fault.EventFault.{EventFault}
use Rattle.gerrit_events.specs.declared.fault.EventFault.TheVariants.{BadEvent, Dropped}
use Rattle.gerrit_events.specs.declared.fault.EventKey.TheVariants.{Line, TypeName}
use Rattle.gerrit_events.specs.declared.kind.Kind.{Kind}
use Rattle.gerrit_events.specs.declared.finding.Finding.{Finding}
use Rattle.gerrit_events.specs.declared.finding.Finding.TheVariants.{Brings, Shows, Lists, Refuses}
use Rattle.gerrit_events.specs.declared.part.Part.{Part}
use Rattle.gerrit_events.specs.declared.part.Part.TheVariants.{Nothing}
use Rattle.gerrit_events.specs.Claims.{Claim, drafts, shows, lists, refuses, claims_by}
use Rattle.gerrit_events.specs.Fault.{event_key_of}
use Rattle.gerrit_events.specs.Kinds.{line_kind}
use Rattle.gerrit_events.specs.Listings.{listing_shown}
use Rattle.gerrit_events.specs.Parts.{line_part}
use Rattle.gerrit_events.specs.Patches.{brought_by, patches_after}
use Rattle.gerrit_events.specs.Projects.{Choice, feeds}
use Rattle.gerrit_events.specs.Revisions.{Revision}

-- a body without faults is kept
abbrev pub IsKeptBody : Deed → Deed → Type 0
IsKeptBody deed body = IsFaultless deed × (body ≡ kept_deed deed)

-- of another the key of its first fault is named
abbrev pub IsLost : Deed → EventFault → Type 0
IsLost deed (BadEvent key) = (fault : BodyFault) × IsFirstBodyFault fault deed × (key ≡ event_key_of fault)
IsLost deed Dropped = ⊥

abbrev pub IsSettled : Claim → Finding → Type 0
IsSettled (drafts deed) (Brings body) = IsKeptBody deed body
IsSettled (drafts deed) (Refuses fault) = IsLost deed fault
IsSettled (shows deed) (Shows body) = IsKeptBody deed body
IsSettled (shows deed) (Refuses fault) = IsLost deed fault
IsSettled (lists listing) (Lists found) = listing_shown found ≡ listing
IsSettled (refuses fault) (Refuses found) = found ≡ fault
IsSettled claim finding = ⊥

abbrev pub ClaimsAreSettled : List Claim → List Finding → Type 0
ClaimsAreSettled [] [] = Unit {0}
ClaimsAreSettled [] (finding ∷ findings) = ⊥
ClaimsAreSettled (claim ∷ claims) [] = ⊥
ClaimsAreSettled (claim ∷ claims) (finding ∷ findings) = IsSettled claim finding × ClaimsAreSettled claims findings

-- the bytes are the JSON text of an object
pub record IsLineObject (text : List ℕ) (members : Members) : Type 0 where
  pub utf8 : IsUtf8 text
  pub value : read text ≡ Some (object members)

-- what a line whose `type` says this kind claims, where its project is fed; one whose `type` is no text is refused
abbrev pub claims_of : List Revision → Choice → Option Kind → Data → List Claim
claims_of known choice None line = refuses (BadEvent TypeName) ∷ []
claims_of known choice (Some kind) line = if feeds choice kind line then claims_by known kind line else []

abbrev pub known_after : List Revision → Choice → Option Kind → Data → List Revision
known_after known choice None line = known
known_after known choice (Some kind) line =
    if feeds choice kind line then patches_after known (brought_by known kind line) else known

-- the part of Gerrit's output that a line is, and its findings
pub record ParsedLine : Type 0 where
  pub part : Part
  pub findings : List Finding

-- the line is an object, its claims are settled so, and this is known then
pub record IsLineRead (known : List Revision) (choice : Choice) (text : List ℕ) (parsed : ParsedLine) (after : List Revision) :
    Type 0 where
  pub members : Members
  pub is_object : IsLineObject text members
  pub settled : ClaimsAreSettled (claims_of known choice (line_kind (object members)) (object members)) parsed.findings
  pub learned : after ≡ known_after known choice (line_kind (object members)) (object members)
  pub part : parsed.part ≡ line_part (line_kind (object members)) (object members)

-- the line is no object
pub record IsNoEvent (known : List Revision) (text : List ℕ) (parsed : ParsedLine) (after : List Revision) : Type 0 where
  pub none : (members : Members) → ¬ IsLineObject text members
  pub refused : parsed ≡ record { part = Nothing; findings = Refuses (BadEvent Line) ∷ [] }
  pub same : after ≡ known

abbrev pub Reads : List Revision → Choice → List ℕ → ParsedLine → List Revision → Type 0
Reads known choice text parsed after = IsLineRead known choice text parsed after ⊎ IsNoEvent known text parsed after
