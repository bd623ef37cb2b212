-- The numbers and names of faults, and with which a site ends where it isn't opened, or a window of its own fails. They
-- are the project's own.
use Rattle.std.specs.Prelude.{ℕ, List, codes}
use Rattle.site_serve.specs.declared.setup.ServeFault.{ServeFault}
use Rattle.site_serve.specs.declared.setup.ServeFault.TheVariants.{StartUsed, NoMemory, NoPlace, NoJournal}
use Rattle.site_shared.specs.declared.fault.OpenFault.{OpenFault}
use Rattle.site_shared.specs.declared.fault.OpenFault.TheVariants as opening
use Rattle.site_shared.specs.declared.fault.WindowFault.{WindowFault}
use Rattle.site_shared.specs.declared.fault.WindowFault.TheVariants as window

abbrev pub number_of : ServeFault → ℕ
number_of StartUsed = 2
number_of NoMemory = 3
number_of NoPlace = 4
number_of NoJournal = 6

abbrev pub name_of : ServeFault → List ℕ
name_of StartUsed = codes "StartUsed"
name_of NoMemory = codes "NoMemory"
name_of NoPlace = codes "NoPlace"
name_of NoJournal = codes "NoJournal"

abbrev pub after_opening : OpenFault → ServeFault
after_opening opening.NoMemory = NoMemory
after_opening opening.NoPlace = NoPlace
after_opening opening.StartUsed = StartUsed

abbrev pub after_window : WindowFault → ServeFault
after_window window.NoMemory = NoMemory
after_window window.Closed = NoPlace
