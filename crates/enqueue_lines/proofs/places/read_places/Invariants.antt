use Rattle.std.proofs.Common.{◌≡◌, ◌+◌, ◌<◌, ◌^◌, length, take, drop}
use Rattle.byte_ends.specs.Lines.{lines_of}
use Rattle.enqueue_lines.specs.Places.{ArePlacesOfRows}
use Rattle.enqueue_lines.proofs.places.read_places.Given as goal

-- the places are those of the lines so far, of which the text has fewer than can't be counted
abbrev pub invariant-loop-line : goal.invariant-loop-line
invariant-loop-line l = record {
  left : l.lines ≡ drop l.number (lines_of l.text);
  placed : ArePlacesOfRows (take l.number (lines_of l.text)) l.places;
  few : length (lines_of l.text) < 2 ^ 64;
}

abbrev pub decreases-loop-line : goal.decreases-loop-line
decreases-loop-line l = length l.lines
