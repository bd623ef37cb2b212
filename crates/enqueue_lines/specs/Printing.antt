-- The lines that hand items over: for each item whose change is in a project of the pipeline, the template with its
-- values. An item whose change isn't known is reported.
use Rattle.std.specs.Prelude.{◌++◌, ℕ, List, [], Option, None, Some, codes, flat_map, if◌then◌else◌}
use Rattle.byte_ends.specs.Lines.{as_line}
use Rattle.gerrit_events.specs.Projects.{Choice, has_project}
use Rattle.gerrit_events.specs.Rows.{Place}
use Rattle.refusal_line.specs.Line.{line_of}
use Rattle.refusal_line.specs.declared.part.Part.TheVariants.{Enqueue}
use Rattle.report_text.specs.Report.{item_text}
use Rattle.state_core.specs.declared.item.Item.{Item}
use Rattle.enqueue_lines.specs.Places.{known_place}
use Rattle.enqueue_lines.specs.Template.{Given, Part, filled}
use Rattle.enqueue_lines.specs.declared.pipeline.Pipeline.{Pipeline}

-- what items are handed over with: the template, the tenant and the pipeline, the pipeline's projects, and where
-- changes are to be merged
pub record Pipe : Type 0 where
  pub template : List Part
  pub tenant : List ℕ
  pub name : List ℕ
  pub projects : Choice
  pub place : ℕ → Option Place

abbrev pub pipe_shown : Pipeline → Pipe
pipe_shown pipeline = record {
  template = pipeline.template.now;
  tenant = pipeline.tenant.now;
  name = pipeline.name.now;
  projects = pipeline.projects.now;
  place = known_place pipeline.places.now;
}

abbrev pub given_of : Pipe → Place → Item → Given
given_of pipe place item = record {
  tenant = pipe.tenant;
  pipeline = pipe.name;
  project = place.project;
  branch = place.branch;
  change = item.change;
  set = item.set;
}

-- ---- the lines

abbrev pub line_at : Pipe → Item → Place → List ℕ
line_at pipe item place =
    if has_project pipe.projects place.project then as_line (filled pipe.template (given_of pipe place item)) else []

abbrev pub line_by : Pipe → Item → Option Place → List ℕ
line_by pipe item None = []
line_by pipe item (Some place) = line_at pipe item place

abbrev pub item_line : Pipe → Item → List ℕ
item_line pipe item = line_by pipe item (pipe.place item.change)

-- what is reported where the place of a change isn't known
abbrev pub unplaced_line : Item → List ℕ
unplaced_line item = line_of Enqueue 0 (codes "NoProject " ++ item_text item)

abbrev pub unknown_by : Item → Option Place → List ℕ
unknown_by item None = unplaced_line item
unknown_by item (Some place) = []

abbrev pub report_line : Pipe → Item → List ℕ
report_line pipe item = unknown_by item (pipe.place item.change)

-- of items, in their order
abbrev pub item_lines : Pipe → List Item → List ℕ
item_lines pipe items = flat_map (item_line pipe) items

abbrev pub report_lines : Pipe → List Item → List ℕ
report_lines pipe items = flat_map (report_line pipe) items
