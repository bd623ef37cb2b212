-- A front, as its rows show it, and how it is stored as a value.
use Rattle.std.specs.Prelude.{ℕ, List}
use Rattle.std.specs.Coded.{Coded, coded×, coded_ℕ}
use Rattle.std.specs.FinMap as map
use Rattle.lattice_core.specs.JoinMap.{map_of}
use Rattle.replica_core.specs.Front.{Reaches, row_order}
use Rattle.replica_core.specs.declared.front.Row.{Row}

abbrev pub reaches_shown : List (Row × ℕ) → Reaches
reaches_shown = map_of row_order (λ row. (row.site, row.start)) (λ reach. reach)

abbrev pub reaches_code : Coded Reaches
reaches_code = map.code (coded× coded_ℕ coded_ℕ) coded_ℕ
