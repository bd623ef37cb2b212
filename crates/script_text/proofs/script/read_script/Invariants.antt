use Rattle.std.proofs.Common.{◌≡◌, length, ◌++◌, ℕ, List, Option, None}
use Rattle.std.specs.Option.{option_copied}
use Rattle.script_text.specs.declared.script.Step.{Step}
use Rattle.script_text.specs.Script.{SaySteps}
use Rattle.script_text.proofs.script.read_script.Given as goal

-- whatever the lines that are left say, those from the second on say the steps so far and then that
abbrev pub invariant-loop-number : goal.invariant-loop-number
invariant-loop-number l =
    record {
      told : (steps : List Step) (bad : Option ℕ) → SaySteps (option_copied l.gate) l.lines steps bad
          → SaySteps (option_copied l.gate) l.initial.lines (l.script.steps.items ++ steps) bad;
      sites : l.script.sites ≡ l.initial.script.sites;
      none : l.script.bad_line ≡ None;
    }

abbrev pub decreases-loop-number : goal.decreases-loop-number
decreases-loop-number l = length l.lines
