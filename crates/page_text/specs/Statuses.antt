-- How many changes have each status (Gerrit, "Changes": NEW, ABANDONED or MERGED).
use Rattle.std.specs.Prelude.{ℕ, Bool, true, false, count_by}
use Rattle.std.specs.FinMap as finite
use Rattle.change_core.specs.Change.{Change}
use Rattle.change_core.specs.Views.{status_of}
use Rattle.change_core.specs.declared.life.Status.{Status}
use Rattle.change_core.specs.declared.life.Status.TheVariants.{New, Abandoned, Merged}
use Rattle.state_core.specs.State.{State}

abbrev pub same_status : Status → Status → Bool
same_status New New = true
same_status Abandoned Abandoned = true
same_status Merged Merged = true
same_status _ _ = false

abbrev pub has_status : Status → Change → Bool
has_status status change = same_status (status_of change) status

abbrev pub status_count : State → Status → ℕ
status_count state status = count_by (λ entry. has_status status entry.1) (finite.entries state)
