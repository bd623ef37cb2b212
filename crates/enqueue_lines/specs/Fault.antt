-- The numbers and the words of refusals.
use Rattle.std.specs.Prelude.{ℕ, List, ◌++◌, codes, decimal}
use Rattle.enqueue_lines.specs.declared.fault.EnqueueFault.{EnqueueFault}
use Rattle.enqueue_lines.specs.declared.fault.EnqueueFault.TheVariants.{BadLine, BadEnd, NoEnd, ReadFault, NoMemory}
use Rattle.enqueue_lines.specs.declared.fault.EnqueueFault.TheVariants.{WriteFault, BadQuery, BadHanded}
use Rattle.enqueue_lines.specs.declared.fault.TemplateFault.{TemplateFault}
use Rattle.enqueue_lines.specs.declared.fault.TemplateFault.TheVariants.{UnknownField, OpenBrace, QuotedField}
use Rattle.enqueue_lines.specs.declared.fault.TemplateFault.TheVariants.{NoMemory as NoRoom}
use Rattle.enqueue_lines.specs.Template.{name_of}

abbrev pub template_number : TemplateFault → ℕ
template_number (UnknownField name) = 7
template_number OpenBrace = 8
template_number (QuotedField field) = 11
template_number NoRoom = 5

abbrev pub template_words : TemplateFault → List ℕ
template_words (UnknownField name) = codes "UnknownField " ++ name.now
template_words OpenBrace = codes "OpenBrace"
template_words (QuotedField field) = codes "QuotedField " ++ name_of field
template_words NoRoom = codes "NoMemory"

abbrev pub fault_number : EnqueueFault → ℕ
fault_number (BadLine line) = 1
fault_number (BadEnd line) = 2
fault_number NoEnd = 3
fault_number ReadFault = 4
fault_number NoMemory = 5
fault_number WriteFault = 6
fault_number (BadQuery line) = 9
fault_number (BadHanded line) = 10

abbrev pub enqueue_fault_words : EnqueueFault → List ℕ
enqueue_fault_words (BadLine line) = codes "BadLine " ++ decimal line
enqueue_fault_words (BadEnd line) = codes "BadEnd " ++ decimal line
enqueue_fault_words NoEnd = codes "NoEnd"
enqueue_fault_words ReadFault = codes "ReadFault"
enqueue_fault_words NoMemory = codes "NoMemory"
enqueue_fault_words WriteFault = codes "WriteFault"
enqueue_fault_words (BadQuery line) = codes "BadQuery " ++ decimal line
enqueue_fault_words (BadHanded line) = codes "BadHanded " ++ decimal line
