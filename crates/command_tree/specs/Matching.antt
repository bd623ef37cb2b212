-- What clap makes of words (docs.rs/clap), over the program's commands.
use Rattle.std.specs.Prelude.{◌≡◌, ◌≢◌, List, [], Option, Some, codes}
use Rattle.clap.specs.Words.{IsAmong, fault_of, first_of, subcommand_of}
use Rattle.clap.specs.declared.error.kind.ErrorKind.{ErrorKind}
use Rattle.clap.specs.declared.error.kind.ErrorKind.TheVariants.{DisplayHelp, DisplayVersion}
use Rattle.command_tree.specs.Commands.{program}
pub use Rattle.clap.specs.Words.{Row, Text, all_of, first_of}

-- clap finds no fault in the words
abbrev pub AreFaultlessWords : List Text → Type 0
AreFaultlessWords words = fault_of program words ≡ []

-- they are a wish for help
abbrev pub AskForHelp : List Text → Type 0
AskForHelp words = IsAmong DisplayHelp (fault_of program words)

-- they are a wish for the version
abbrev pub AskForVersion : List Text → Type 0
AskForVersion words = IsAmong DisplayVersion (fault_of program words)

-- something is wrong with them
abbrev pub AreFaulty : List Text → Type 0
AreFaulty words =
    (kind : ErrorKind) × IsAmong kind (fault_of program words) × (kind ≢ DisplayHelp) × (kind ≢ DisplayVersion)

-- the command that they name, if they name one, and the values of its arguments
abbrev pub Matched : Type 0
Matched = Option (Text × List Row)

abbrev pub matched_of : List Text → Matched
matched_of = subcommand_of program

-- the flag is there, as clap shows it
abbrev pub HasFlag : List Row → Text → Type 0
HasFlag rows flag = first_of flag rows ≡ Some (codes "true")
