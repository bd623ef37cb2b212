-- What is said of a record whose clock is near its end. It is the project's own.
use Rattle.std.specs.Prelude.{◌++◌, ℕ, List, codes, decimal}
use Rattle.refusal_line.specs.Line.{line_of}
use Rattle.refusal_line.specs.declared.part.Part.TheVariants.{Serve}

-- the greatest time of the record
abbrev pub late_clock_line : ℕ → List ℕ
late_clock_line latest = line_of Serve 9 (codes "LateClock " ++ decimal latest)
