-- The numbers and names of faults. They are the project's own.
use Rattle.std.specs.Prelude.{ℕ, List, codes}
use Rattle.site_shared.specs.declared.fault.DeskFault.{DeskFault}
use Rattle.site_shared.specs.declared.fault.DeskFault.TheVariants as desk
use Rattle.site_shared.specs.declared.fault.OpenFault.{OpenFault}
use Rattle.site_shared.specs.declared.fault.OpenFault.TheVariants as opening
use Rattle.site_shared.specs.declared.fault.RefreshFault.{RefreshFault}
use Rattle.site_shared.specs.declared.fault.RefreshFault.TheVariants as refresh
use Rattle.site_shared.specs.declared.fault.WindowFault.{WindowFault}
use Rattle.site_shared.specs.declared.fault.WindowFault.TheVariants as window

abbrev pub open_number_of : OpenFault → ℕ
open_number_of opening.NoMemory = 1
open_number_of opening.NoPlace = 2
open_number_of opening.StartUsed = 3

abbrev pub open_name_of : OpenFault → List ℕ
open_name_of opening.NoMemory = codes "NoMemory"
open_name_of opening.NoPlace = codes "NoPlace"
open_name_of opening.StartUsed = codes "StartUsed"

abbrev pub desk_number_of : DeskFault → ℕ
desk_number_of desk.ClockSpent = 1
desk_number_of (desk.BadBody cause) = 2
desk_number_of (desk.NoMemory held) = 3

abbrev pub desk_name_of : DeskFault → List ℕ
desk_name_of desk.ClockSpent = codes "ClockSpent"
desk_name_of (desk.BadBody cause) = codes "BadBody"
desk_name_of (desk.NoMemory held) = codes "NoMemory"

abbrev pub window_number_of : WindowFault → ℕ
window_number_of window.NoMemory = 2
window_number_of window.Closed = 3

abbrev pub window_name_of : WindowFault → List ℕ
window_name_of window.NoMemory = codes "NoMemory"
window_name_of window.Closed = codes "Closed"

abbrev pub refresh_number_of : RefreshFault → ℕ
refresh_number_of refresh.Stranger = 1
refresh_number_of refresh.NoMemory = 2
refresh_number_of refresh.Closed = 3

abbrev pub refresh_name_of : RefreshFault → List ℕ
refresh_name_of refresh.Stranger = codes "Stranger"
refresh_name_of refresh.NoMemory = codes "NoMemory"
refresh_name_of refresh.Closed = codes "Closed"
