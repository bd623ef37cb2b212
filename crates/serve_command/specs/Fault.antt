-- The numbers and names of what ends the program of a site. They are the project's own.
use Rattle.std.specs.Prelude.{ℕ, List, codes}
use Rattle.serve_command.specs.declared.fault.ProgramFault.{ProgramFault}
use Rattle.serve_command.specs.declared.fault.ProgramFault.TheVariants.{NoBind, NoSave, Locked, StartTaken}

abbrev pub number_of : ProgramFault → ℕ
number_of NoBind = 1
number_of NoSave = 5
number_of Locked = 7
number_of StartTaken = 8

abbrev pub name_of : ProgramFault → List ℕ
name_of NoBind = codes "NoBind"
name_of NoSave = codes "NoSave"
name_of Locked = codes "Locked"
name_of StartTaken = codes "StartTaken"
