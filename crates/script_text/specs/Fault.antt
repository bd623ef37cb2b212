-- The numbers and names of faults in refusals.
use Rattle.std.specs.Prelude.{ℕ, List, ◌++◌, codes, decimal}
use Rattle.script_text.specs.declared.fault.ScriptFault.{ScriptFault}
use Rattle.script_text.specs.declared.fault.ScriptFault.TheVariants.{BadSites, BadLine, NoMemory}

abbrev pub number_of : ScriptFault → ℕ
number_of BadSites = 1
number_of (BadLine line) = 2
number_of NoMemory = 3

abbrev pub name_of : ScriptFault → List ℕ
name_of BadSites = codes "BadSites"
name_of (BadLine line) = codes "BadLine"
name_of NoMemory = codes "NoMemory"

-- the name, and the number of a bad line
abbrev pub words_of : ScriptFault → List ℕ
words_of (BadLine line) = codes "BadLine " ++ decimal line
words_of fault = name_of fault
