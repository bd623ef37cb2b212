-- How far the answer of a query has come: Gerrit writes its rows and then a line of its statistics, which says whether
-- more is left to be asked for.
use Rattle.std.specs.Prelude.{◌≡◌, ◌++◌, Bool, true, false, List, [], ◌∷◌, Result, Ok, Err, fold}
use Rattle.event_feed.specs.declared.fault.FeedFault.{FeedFault}
use Rattle.event_feed.specs.declared.fault.FeedFault.TheVariants.{Incomplete}
use Rattle.event_feed.specs.declared.progress.Input.{Input}
use Rattle.event_feed.specs.declared.progress.Input.TheVariants.{Stream, Answer}
use Rattle.event_feed.specs.declared.progress.Progress.{Progress}
use Rattle.event_feed.specs.declared.progress.Progress.TheVariants.{Unbegun, Open, Whole}
use Rattle.gerrit_events.specs.declared.part.Part.{Part}
use Rattle.gerrit_events.specs.declared.part.Part.TheVariants.{Nothing, Event, Row, Stats, Error}

-- after the statistics the answer is open where more is left, and else whole
abbrev pub after_stats : Bool → Progress
after_stats true = Open
after_stats false = Whole

-- after a line that is this part
abbrev pub after_part : Progress → Part → Progress
after_part progress Nothing = progress
after_part progress (Event change) = progress
after_part progress (Row change) = Open
after_part progress (Stats more) = after_stats more
after_part progress Error = progress

-- how a feed ends with its source: a query has to be answered, and an answer that has begun has to be whole
abbrev pub end_of : Input → Progress → Result (Unit {0}) FeedFault
end_of input Open = Err Incomplete
end_of input Whole = Ok tt
end_of Stream Unbegun = Ok tt
end_of Answer Unbegun = Err Incomplete

-- ---- what that is of all lines

-- how far an answer has come once lines that are these parts were read
abbrev pub progress_of : List Part → Progress
progress_of parts = fold after_part Unbegun parts

-- a line that is neither a row nor one of statistics
abbrev pub IsBeside : Part → Type 0
IsBeside Nothing = Unit {0}
IsBeside (Event change) = Unit {0}
IsBeside (Row change) = ⊥
IsBeside (Stats more) = ⊥
IsBeside Error = Unit {0}

abbrev pub AreBeside : List Part → Type 0
AreBeside [] = Unit {0}
AreBeside (part ∷ parts) = IsBeside part × AreBeside parts

-- the last row or line of statistics is one of statistics, which says that no more is left
pub record EndsWhole (parts : List Part) : Type 0 where
  pub before : List Part
  pub after : List Part
  pub whole : parts ≡ before ++ Stats false ∷ after
  pub last : AreBeside after
