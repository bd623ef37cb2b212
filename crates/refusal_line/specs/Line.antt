-- The line of a refusal.
use Rattle.std.specs.Prelude.{ℕ, List, ◌++◌, codes, decimal}
use Rattle.refusal_line.specs.declared.part.Part.{Part}
use Rattle.refusal_line.specs.declared.part.Part.TheVariants.{Check, Enqueue, Events, File, Gate, Item, Journal, Keys}
use Rattle.refusal_line.specs.declared.part.Part.TheVariants.{Memory, Output, Peer, Queries, Script, Serve}
use Rattle.refusal_line.specs.declared.part.Part.TheVariants.{Session, Snapshot}

-- the part's name
abbrev pub name_of : Part → List ℕ
name_of Script = codes "script"
name_of Snapshot = codes "snapshot"
name_of Gate = codes "gate"
name_of Journal = codes "journal"
name_of File = codes "file"
name_of Item = codes "item"
name_of Check = codes "check"
name_of Output = codes "output"
name_of Memory = codes "memory"
name_of Serve = codes "serve"
name_of Session = codes "session"
name_of Peer = codes "peer"
name_of Events = codes "events"
name_of Enqueue = codes "enqueue"
name_of Queries = codes "queries"
name_of Keys = codes "keys"

-- a name and a number, with a blank after each
abbrev pub named_number : List ℕ → ℕ → List ℕ
named_number name number = name ++ codes " " ++ decimal number ++ codes " "

-- the part, the number of its fault, and the words of that
abbrev pub line_of : Part → ℕ → List ℕ → List ℕ
line_of part number words = codes "reviewgate: " ++ named_number (name_of part) number ++ words ++ codes "\n"
