-- What a line is in what Gerrit writes: an event, or a part of the answer to a query ("query": a row for each change,
-- then the statistics).
use Rattle.std.specs.Prelude.{true, Option, Some, None, codes}
use Rattle.serde_json.specs.Data.{Data}
use Rattle.serde_json.specs.Find.{get}
use Rattle.gerrit_events.specs.declared.kind.Kind.{Kind}
use Rattle.gerrit_events.specs.declared.kind.Kind.TheVariants.{DroppedOutput, QueryLine, QueryStats, QueryError}
use Rattle.gerrit_events.specs.declared.part.Part.{Part}
use Rattle.gerrit_events.specs.declared.part.Part.TheVariants.{Nothing, Event, Row, Stats, Error}
use Rattle.gerrit_events.specs.Marks.{says}
use Rattle.gerrit_events.specs.Patches.{change_in}

abbrev pub part_by : Kind → Data → Part
part_by DroppedOutput line = Event None
part_by QueryLine line = Row (change_in QueryLine line)
part_by QueryStats line = Stats (says true (get (codes "moreChanges") line))
part_by QueryError line = Error
part_by kind line = Event (change_in kind line)

-- a line whose `type` is no text is nothing
abbrev pub line_part : Option Kind → Data → Part
line_part None line = Nothing
line_part (Some kind) line = part_by kind line
