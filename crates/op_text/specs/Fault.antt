-- The numbers and names of faults in reports.
use Rattle.std.specs.Prelude.{ℕ, List, ◌++◌, codes, string_bytes}
use Rattle.review_ops.specs.Fault as body
use Rattle.op_text.specs.declared.fault.OpTextFault.{OpTextFault}
use Rattle.op_text.specs.declared.fault.OpTextFault.TheVariants.{NotJson, BadShape, BadBody, NoMemory}

abbrev pub number_of : OpTextFault → ℕ
number_of NotJson = 1
number_of (BadShape key) = 2
number_of (BadBody fault) = 3
number_of NoMemory = 4

abbrev pub name_of : OpTextFault → List ℕ
name_of NotJson = codes "NotJson"
name_of (BadShape key) = codes "BadShape"
name_of (BadBody fault) = codes "BadBody"
name_of NoMemory = codes "NoMemory"

-- the name, and the key that isn't as it should be or the name of the body's fault
abbrev pub words_of : OpTextFault → List ℕ
words_of (BadShape key) = codes "BadShape " ++ string_bytes key
words_of (BadBody fault) = codes "BadBody " ++ body.name_of fault
words_of fault = name_of fault
