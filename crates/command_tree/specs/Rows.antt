-- The rows that clap matched.
use Rattle.std.specs.Prelude.{List}
use Rattle.clap.specs.Words.{Row, found_of, rows_of}
use Rattle.command_tree.specs.declared.values.Values.{Values}

abbrev pub rows_in : Values → List Row
rows_in values = rows_of (found_of values.found)
