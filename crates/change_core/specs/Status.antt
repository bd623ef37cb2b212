-- A change's status, as Gerrit prints it.
use Rattle.std.specs.Prelude.{ℕ, List, codes}
use Rattle.change_core.specs.declared.life.Status.{Status}
use Rattle.change_core.specs.declared.life.Status.TheVariants.{New, Abandoned, Merged}

abbrev pub status_name : Status → List ℕ
status_name New = codes "NEW"
status_name Abandoned = codes "ABANDONED"
status_name Merged = codes "MERGED"
