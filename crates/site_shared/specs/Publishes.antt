-- The publishes of a running site. Each is a list of operations; the list of publishes begins with the journal that the
-- site was opened with, and only grows. This is state machine replication's log of commands (Schneider, ACM Computing
-- Surveys 22, 1990, 2), of which each reader applies a prefix.
use Rattle.std.specs.Prelude.{◌≡◌, List, [], ◌∷◌, fold, length, take}
use Rattle.review_ops.specs.Operation.{Operation}
use Rattle.replica_core.specs.Journal.{all_arrived}

-- the journal once all these have been published: that of the opening, and then what came, publish by publish
abbrev pub arrive : List (List Operation) → List Operation
arrive [] = []
arrive (opening ∷ publishes) = fold all_arrived opening publishes

-- the journal is the front part of the other
abbrev pub IsFrontPart : List Operation → List Operation → Type 0
IsFrontPart journal other = take (length journal) other ≡ journal
