-- What words are read as.
use Rattle.std.specs.Prelude.{◌≡◌, ◌≢◌, ◌⊎◌, List, None, Some}
use Rattle.clap.specs.declared.error.kind.ErrorKind.{ErrorKind}
use Rattle.clap.specs.declared.error.kind.ErrorKind.TheVariants.{DisplayHelp, DisplayVersion, OutOfMemory}
use Rattle.command_tree.specs.declared.parsing.Parsed.{Parsed}
use Rattle.command_tree.specs.declared.parsing.Parsed.TheVariants.{Command, Help, NoMemory, Usage, Version}
use Rattle.command_tree.specs.Matching.{AreFaulty, AskForHelp, AskForVersion, AreFaultlessWords, Matched, Text, matched_of}
use Rattle.command_tree.specs.Rows.{rows_in}

-- words are read as this: a command with its values, only where clap finds no fault; a usage error where it finds one
-- that isn't a wish for help or for the version, or no fault and no command; memory may be refused at any
abbrev pub Parses : List Text → Parsed → Type 0
Parses words (Command name values) = AreFaultlessWords words × (matched_of words ≡ Some (name.now, rows_in values))
Parses words (Help text) = AskForHelp words
Parses words (Version text) = AskForVersion words
Parses words (Usage text) = AreFaulty words ⊎ (AreFaultlessWords words × (matched_of words ≡ None))
Parses words NoMemory = Unit {0}

-- what was matched is read as this
abbrev pub IsReadAs : Matched → Parsed → Type 0
IsReadAs matched (Command name values) = matched ≡ Some (name.now, rows_in values)
IsReadAs matched (Usage text) = matched ≡ None
IsReadAs matched NoMemory = Unit {0}
IsReadAs matched parsed = ⊥

-- a fault of this kind is read as this
abbrev pub IsRefused : ErrorKind → Parsed → Type 0
IsRefused kind (Command name values) = ⊥
IsRefused kind (Help text) = kind ≡ DisplayHelp
IsRefused kind (Version text) = kind ≡ DisplayVersion
IsRefused kind (Usage text) = (kind ≢ OutOfMemory) × (kind ≢ DisplayHelp) × (kind ≢ DisplayVersion)
IsRefused kind NoMemory = Unit {0}
