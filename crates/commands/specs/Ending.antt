-- The law of all commands. A command is one row in each of two tables: its inputs, in the order in which they are read
-- and judged, and the answer that it prints where all are had.
use Rattle.std.specs.Prelude.{◌⊎◌, ℕ, List, [], ◌∷◌, IsErrAnd, IsErrOf, Option, None, Some}
use Rattle.std.specs.Borrow.{Bor}
use Rattle.command_line.specs.declared.asked.Command.{Command}
use Rattle.command_line.specs.declared.asked.Command.TheVariants.{Check, Footers, Graph, Merge, Ready, ReadyItem}
use Rattle.command_line.specs.declared.asked.Command.TheVariants.{Simulate, Why}
use Rattle.console.specs.Printing.{Ended}
use Rattle.commands.specs.Answers.{AreFooterLines, HasAround, HasItem, IsMergedText, IsOf, IsPicture, IsWhyAnswer}
use Rattle.commands.specs.Answers.{IsReport}
use Rattle.commands.specs.Answers.{IsAround, IsChecked, IsItemAnswer, IsItemText, IsSimulated, IsPrintedWhole, Misses}
use Rattle.commands.specs.Answers.{MissesNone}
use Rattle.console.specs.Console.{ConsoleState, IsCutShort, IsPrinted}
use Rattle.console.specs.Inputs.{AreHad, Input, IsFirstRefused, input}
use Rattle.console.specs.Inputs.{gate_file, message_file, record_input, script_file}
use Rattle.console.specs.declared.refusals.Refusal.TheVariants.{Output}

-- an input that may be left out
abbrev pub any_gate : Option (Bor (List ℕ)) → List Input
any_gate None = []
any_gate (Some gate) = input gate_file gate.now ∷ []

abbrev pub any_record : Option (Bor (List ℕ)) → List Input
any_record None = []
any_record (Some snapshot) = record_input snapshot.now ∷ []

abbrev pub inputs_of : Command → List Input
inputs_of (Simulate command) = input script_file command.script.now ∷ any_gate command.gate
inputs_of (Ready command) = input gate_file command.gate.now ∷ record_input command.snapshot.now ∷ []
inputs_of (ReadyItem command) = input gate_file command.gate.now ∷ record_input command.snapshot.now ∷ []
inputs_of (Merge command) = record_input command.first.now ∷ record_input command.second.now ∷ []
inputs_of (Footers command) = input gate_file command.gate.now ∷ input message_file command.message.now ∷ []
inputs_of (Why command) = input gate_file command.gate.now ∷ record_input command.snapshot.now ∷ []
inputs_of (Graph command) = input gate_file command.gate.now ∷ record_input command.snapshot.now ∷ []
inputs_of (Check command) = input gate_file command.gate.now ∷ any_record command.snapshot

-- for these input texts the command prints this answer, and then ends like this
abbrev pub IsAnswer : Command → List (List ℕ) → List ℕ → Ended → Type 0
IsAnswer (Simulate command) (text ∷ gates) answer ended = IsSimulated text gates answer ended
IsAnswer (Ready command) (one ∷ other ∷ []) answer ended =
    IsPrintedWhole (IsOf one other (IsReport command.format)) MissesNone answer ended
IsAnswer (ReadyItem command) (one ∷ other ∷ []) answer ended = IsItemAnswer one other command answer ended
IsAnswer (Merge command) (one ∷ other ∷ []) answer ended =
    IsPrintedWhole (IsMergedText one other) MissesNone answer ended
IsAnswer (Footers command) (one ∷ other ∷ []) answer ended =
    IsPrintedWhole (AreFooterLines one other command) MissesNone answer ended
IsAnswer (Why command) (one ∷ other ∷ []) answer ended =
    IsPrintedWhole (IsOf one other (IsWhyAnswer one command))
    (Misses (IsItemText command.change command.set) other (HasItem command.change command.set))
    answer ended
IsAnswer (Graph command) (one ∷ other ∷ []) answer ended =
    IsPrintedWhole (IsOf one other (IsPicture command.around))
    (Misses (IsAround command.around) other (HasAround command.around))
    answer ended
IsAnswer (Check command) (text ∷ snapshots) answer ended = IsChecked text snapshots command answer ended
IsAnswer command texts answer ended = ⊥

-- all of the answer was printed, and the command ends as its row says; or the output failed, and a proper prefix was
-- printed
abbrev pub Finishes : (List ℕ → Ended → Type 0) → ConsoleState → ConsoleState → Ended → Type 0
Finishes IsTheAnswer old new ended =
    ((answer : List ℕ) × IsTheAnswer answer ended × IsPrinted answer old new)
    ⊎ ((answer : List ℕ) × (other : Ended) × IsTheAnswer answer other
    × IsCutShort answer old new × IsErrOf ended Output)

-- the first input that can't be had is refused, and nothing is printed; or all are had, and the command finishes
abbrev pub Ends : Command → ConsoleState → ConsoleState → Ended → Type 0
Ends command old new ended =
    IsErrAnd ended (IsFirstRefused (inputs_of command) old new)
    ⊎ ((texts : List (List ℕ)) × (mid : ConsoleState) × AreHad (inputs_of command) old texts mid
    × Finishes (IsAnswer command texts) mid new ended)
