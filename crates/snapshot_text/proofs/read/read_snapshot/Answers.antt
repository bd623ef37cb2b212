use Rattle.std.proofs.Common.{◌≡◌, subst}
use Rattle.std.specs.Prelude.{MatchResult}
use Rattle.replica_core.specs.Journal.{all_arrived}
use Rattle.snapshot_text.specs.Snapshot.{IsOutside}
use Rattle.snapshot_text.proofs.read.read_snapshot.Goals as goal

pub returns-clause-only : goal.returns-clause-only
returns-clause-only g c = λ text ops known says.
    subst (λ base. MatchResult c.read_onto.result (λ replica. replica ≡ all_arrived base ops) IsOutside) c.new.ensures
    (c.read_onto.ensures.only text ops known says)
