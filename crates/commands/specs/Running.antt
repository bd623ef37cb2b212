-- How a command runs, what is written to standard error, and the exit status.
use Rattle.std.specs.Prelude.{◌≡◌, ◌<◌, ℕ, List, Option, Ok, Err, length, take}
use Rattle.std.specs.Io.KnownBytes.{Appends}
use Rattle.byte_ends.specs.Failures.{OneFailed}
use Rattle.command_line.specs.declared.asked.Command.{Command}
use Rattle.console.specs.Printing.{Ended}
use Rattle.console.specs.Console.{ConsoleState, Contents, Records}
use Rattle.commands.specs.Ending.{Ends}
use Rattle.console.specs.Refusals.{refusal_line}
use Rattle.console.specs.Showing.{ErrorOutput, ShowsLine}
use Rattle.console.specs.declared.refusals.Refusal.TheVariants.{Output, Waits}

-- what was printed, where that is known, and how many calls of the input, the files and the output failed
pub data Counts : Type 0 where
  counts : Option (List ℕ) → ℕ → ℕ → ℕ → Counts

abbrev pub console_counts : ConsoleState → Counts
console_counts console = counts console.printed console.input_failed console.files_failed console.output_failed

-- the command ends so over a console of this input, these files and these running sites
pub record Runs (command : Command) (left : Option (List ℕ)) (files : Contents) (sites : Records) (old new : Counts)
    (ended : Ended)
    : Type 0 where
  pub before : ConsoleState
  pub after : ConsoleState
  pub input : before.left ≡ left
  pub named : before.files ≡ files
  pub running : before.sites ≡ sites
  pub begins : console_counts before ≡ old
  pub ends : Ends command before after ended
  pub leaves : console_counts after ≡ new

-- what is written to standard error, and the exit status: nothing and 0 after success, nothing and 3 if the item of
-- `ready --item` waits, the line of the refusal and 1 after a refusal, or the line `NoMemory` if memory is refused for
-- that line
abbrev pub Reports : ErrorOutput → ErrorOutput → Ended → ℕ → Type 0
Reports old new (Ok done) status = (new ≡ old) × (status ≡ 0)
Reports old new (Err Waits) status = (new ≡ old) × (status ≡ 3)
Reports old new (Err refusal) status = ShowsLine (refusal_line refusal) old new × (status ≡ 1)

-- a text was printed; or the output failed, and a proper prefix of it was
abbrev pub PrintsText : List ℕ → Option (List ℕ) → Option (List ℕ) → ℕ → ℕ → Ended → Type 0
PrintsText text old new failed now_failed (Ok done) = Appends old new text × (now_failed ≡ failed)
PrintsText text old new failed now_failed (Err refusal) =
    (refusal ≡ Output) × ((count : ℕ) × (count < length text) × Appends old new (take count text))
    × OneFailed failed now_failed
