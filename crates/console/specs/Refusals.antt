-- How a refusal is printed: the part that refused, the number of the fault, and its name with what is known of it.
use Rattle.std.specs.Prelude.{ℕ, List, [], ◌++◌, Option, None, Some, codes, decimal, if◌then◌else◌}
use Rattle.byte_ends.specs.ReadAll as bytes
use Rattle.gate_rules.specs.Fault as gate
use Rattle.refusal_line.specs.Line.{line_of}
use Rattle.refusal_line.specs.declared.part.Part.{Part}
use Rattle.refusal_line.specs.declared.part.Part.TheVariants as part
use Rattle.site_address.specs.Address.{address_text}
use Rattle.snapshot_text.specs.Fault as snapshot
use Rattle.script_text.specs.Fault as script
use Rattle.console.specs.Console.{is_input}
use Rattle.console.specs.Pulls as pull
use Rattle.console.specs.declared.refusals.Refusal.{Refusal}
use Rattle.console.specs.declared.refusals.Refusal.TheVariants.{Script, Snapshot, Gate, File, NotText, NoItem, Output}
use Rattle.console.specs.declared.refusals.Refusal.TheVariants.{Memory, NoAddress, Peer, Waits, Warnings}

abbrev pub part_of : Refusal → Part
part_of (Script fault) = part.Script
part_of (Snapshot fault name) = part.Snapshot
part_of (Gate fault) = part.Gate
part_of (File name fault) = part.File
part_of (NotText name) = part.File
part_of (Peer fault address) = part.Peer
part_of (NoAddress name) = part.Peer
part_of (NoItem change set) = part.Item
part_of Waits = part.Item
part_of (Warnings count) = part.Check
part_of Output = part.Output
part_of Memory = part.Memory

abbrev pub number_of : Refusal → ℕ
number_of (Script fault) = script.number_of fault
number_of (Snapshot fault name) = snapshot.number_of fault
number_of (Gate fault) = gate.number_of fault
number_of (File name fault) = bytes.number_of fault
number_of (NotText name) = 9
number_of (Peer fault address) = pull.number_of fault
number_of (NoAddress name) = 9
number_of (NoItem change set) = 1
number_of Waits = 2
number_of (Warnings count) = 1
number_of Output = 1
number_of Memory = 1

-- the name of a file after what is said of it; the input has none
abbrev pub name_words : List ℕ → List ℕ
name_words name = if is_input name then [] else codes " " ++ name

-- a fault of a file, with the file's name after that of the fault
abbrev pub file_words : List ℕ → List ℕ → List ℕ
file_words fault name = fault ++ name_words name

-- an item that isn't known: a patch set of a change, or the change
abbrev pub item_words : ℕ → Option ℕ → List ℕ
item_words change None = codes "NoItem " ++ decimal change
item_words change (Some set) = codes "NoItem " ++ decimal change ++ codes "," ++ decimal set

abbrev pub words_of : Refusal → List ℕ
words_of (Script fault) = script.words_of fault
words_of (Snapshot fault name) = file_words (snapshot.words_of fault) name.now
words_of (Gate fault) = gate.words_of fault
words_of (File name fault) = file_words (bytes.name_of fault) name.now
words_of (NotText name) = file_words (codes "NotText") name.now
words_of (Peer fault address) = pull.name_of fault ++ codes " " ++ address_text address
words_of (NoAddress name) = codes "NoAddress " ++ name.now
words_of (NoItem change set) = item_words change set
words_of Waits = codes "Waits"
words_of (Warnings count) = codes "Warnings " ++ decimal count
words_of Output = codes "WriteFault"
words_of Memory = codes "NoMemory"

-- one line on standard error
abbrev pub refusal_line : Refusal → List ℕ
refusal_line refusal = line_of (part_of refusal) (number_of refusal) (words_of refusal)
