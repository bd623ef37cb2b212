-- All votes of a patch set, as a line of a query lists them.
use Rattle.std.specs.Prelude.{ℕ, List, map, filter_map, Option, Some, None, if◌then◌else◌}
use Rattle.std.specs.Char.{to_ascii_lowercase}
use Rattle.std.specs.Str.{bytes_eq}
use Rattle.std.specs.Prelude.{string_bytes, codes}
use Rattle.serde_json.specs.Data.{Data}
use Rattle.serde_json.specs.Find.{get}
use Rattle.gerrit_events.specs.declared.kind.Kind.TheVariants.{QueryLine}
use Rattle.gerrit_events.specs.declared.listing.Ballot.{Ballot as DeclaredBallot}
use Rattle.gerrit_events.specs.declared.listing.Listing.{Listing as DeclaredListing}
use Rattle.gerrit_events.specs.declared.mark.Mark.{Mark}
use Rattle.gerrit_events.specs.Marks.{mark_label, marks_in, reserved_voter}
use Rattle.gerrit_events.specs.Values.{text_in, user_in, listed_values}

-- who voted on which label, which is in lower case
pub record Ballot : Type 0 where
  pub label : List ℕ
  pub voter : List ℕ

pub record Listing : Type 0 where
  pub change : ℕ
  pub set : ℕ
  pub ballots : List Ballot

abbrev pub ballot_shown : DeclaredBallot → Ballot
ballot_shown ballot = record { label = string_bytes ballot.label; voter = string_bytes ballot.voter }

abbrev pub listing_shown : DeclaredListing → Listing
listing_shown listing = record {
  change = listing.change;
  set = listing.set;
  ballots = map ballot_shown listing.ballots.items;
}

abbrev pub ballot_by : Option (List ℕ) → Option (List ℕ) → Option Ballot
ballot_by None voter = None
ballot_by (Some label) None = None
ballot_by (Some label) (Some voter) =
    if bytes_eq voter reserved_voter then None else Some (record { label = map to_ascii_lowercase label; voter = voter })

-- the ballot of an approval, where it has a label and a voter who isn't the reserved one
abbrev pub ballot_of : Data → Option Ballot
ballot_of approval = ballot_by (text_in (get (codes "type") approval)) (user_in (get (codes "by") approval))

abbrev pub ballots_in : Option Data → List Ballot
ballots_in approvals = filter_map ballot_of (listed_values approvals)

-- the reserved voter's ballot
abbrev pub mark_ballot : Mark → Ballot
mark_ballot mark = record { label = mark_label mark; voter = reserved_voter }

abbrev pub mark_ballots : Data → List Ballot
mark_ballots line = map mark_ballot (marks_in QueryLine line)
