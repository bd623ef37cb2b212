-- What a line of a site's standard input asks for, and how a gate file that is read again is refused.
use Rattle.std.specs.Prelude.{◌≡◌, ℕ, List, MatchBool, codes, if◌then◌else◌}
use Rattle.std.specs.Str.{bytes_eq}
use Rattle.byte_ends.specs.declared.faults.BytesFault.TheVariants.{ReadFault}
use Rattle.console.specs.Console.{ConsoleState, is_input}
use Rattle.console.specs.Inputs.{IsRefused, IsUnreadAs, gate_file, input}
use Rattle.console.specs.Refusals.{refusal_line}
use Rattle.console.specs.Showing.{ErrorOutput, ShowsLine}
use Rattle.console.specs.declared.refusals.Refusal.{Refusal}
use Rattle.serve_command.specs.declared.input_commands.InputCommand.{InputCommand}
use Rattle.serve_command.specs.declared.input_commands.InputCommand.TheVariants.{Nothing, Reload, Stop}

abbrev pub parse_command : List ℕ → InputCommand
parse_command line =
    if bytes_eq line (codes "stop") then Stop
    else if bytes_eq line (codes "reload") then Reload
    else Nothing

-- what was read from the input can't be read again; any other gate file is refused as at the start
abbrev pub IsRefusedAgain : List ℕ → ConsoleState → ConsoleState → Refusal → Type 0
IsRefusedAgain name old new refusal =
    MatchBool (is_input name) (IsUnreadAs name ReadFault refusal × (new ≡ old))
    (IsRefused (input gate_file name) old new refusal)

-- the gate file of this name is refused, and the line of that is written
abbrev pub ShowsRefused : List ℕ → ConsoleState → ConsoleState → ErrorOutput → ErrorOutput → Type 0
ShowsRefused name old new before after =
    (refusal : Refusal) × IsRefusedAgain name old new refusal × ShowsLine (refusal_line refusal) before after
