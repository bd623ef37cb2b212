-- The numbers and names of what bars operations. They are the project's own.
use Rattle.std.specs.Prelude.{ℕ, List, codes}
use Rattle.pull_guard.specs.declared.guard.Bar.{Bar}
use Rattle.pull_guard.specs.declared.guard.Bar.TheVariants.{FarAhead, NotListed}

abbrev pub number_of : Bar → ℕ
number_of NotListed = 11
number_of FarAhead = 12

abbrev pub name_of : Bar → List ℕ
name_of NotListed = codes "NotListed"
name_of FarAhead = codes "FarAhead"
