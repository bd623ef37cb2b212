-- The effect of a parsed command line, and the exit status.
use Rattle.std.specs.Prelude.{◌≡◌, ℕ, List, Option, Err, codes, string_bytes}
use Rattle.command_line.specs.declared.asked.Asked.{Asked}
use Rattle.command_line.specs.declared.asked.Asked.TheVariants.{Run, Serve, Recover, Events, Queries, Enqueue}
use Rattle.command_line.specs.declared.asked.Asked.TheVariants.{Help, Version, Usage, NoMemory}
use Rattle.console.specs.Console.{Contents, Records}
use Rattle.console.specs.Printing.{Ended}
use Rattle.console.specs.Showing.{ErrorOutput, Shows}
use Rattle.console.specs.declared.refusals.Refusal.TheVariants.{Memory}
use Rattle.commands.specs.Running.{Counts, PrintsText, Reports, Runs, counts}

-- a text is printed; or the output failed, which is reported; nothing is read
abbrev pub DoesPrint : List ℕ → Counts → Counts → ErrorOutput → ErrorOutput → ℕ → Type 0
DoesPrint text (counts printed input files failed) (counts now_printed now_input now_files now_failed) before after status =
    (ended : Ended) × PrintsText text printed now_printed failed now_failed ended × Reports before after ended status
    × (now_input ≡ input) × (now_files ≡ files)

-- the text of a usage error is written to standard error, and the exit status is 2; nothing is read or printed
abbrev pub DoesBlame : List ℕ → Counts → Counts → ErrorOutput → ErrorOutput → ℕ → Type 0
DoesBlame text old new before after status = Shows text before after × (status ≡ 2) × (new ≡ old)

-- the usage error of a command that isn't run here
abbrev pub apart_text : List ℕ
apart_text =
    codes "error: this command runs on the system's own sockets, clocks and files\n\nFor more information, try '--help'.\n"

-- a command over files is run, over an input, files and running sites; help and the version are printed; a usage error
-- is reported, and so is that memory was refused
abbrev pub DoesAsked : Asked → Option (List ℕ) → Contents → Records → Counts → Counts → ErrorOutput → ErrorOutput → ℕ
    → Type 0
DoesAsked (Run command) left files sites old new before after status =
    (ended : Ended) × Runs command left files sites old new ended × Reports before after ended status
DoesAsked (Help text) left files sites old new before after status =
    DoesPrint (string_bytes text) old new before after status
DoesAsked (Version text) left files sites old new before after status =
    DoesPrint (string_bytes text) old new before after status
DoesAsked (Usage text) left files sites old new before after status =
    DoesBlame (string_bytes text) old new before after status
DoesAsked NoMemory left files sites old new before after status = Reports before after (Err Memory) status × (new ≡ old)
DoesAsked (Serve words) left files sites old new before after status = DoesBlame apart_text old new before after status
DoesAsked (Recover words) left files sites old new before after status =
    DoesBlame apart_text old new before after status
DoesAsked (Events words) left files sites old new before after status = DoesBlame apart_text old new before after status
DoesAsked (Queries words) left files sites old new before after status =
    DoesBlame apart_text old new before after status
DoesAsked (Enqueue words) left files sites old new before after status =
    DoesBlame apart_text old new before after status
