use Rattle.std.proofs.Common.{◌≡◌, ◌++◌, map, flat_map, string_bytes}
use Rattle.std.specs.FinMap.{entries}
use Rattle.state_core.specs.State.{state_shown}
use Rattle.report_text.specs.StateText.{change_text}
use Rattle.report_text.proofs.state_text.text_of.Given as goal

-- what is written, with the texts that are left, is the whole
abbrev pub invariant-loop-number : goal.invariant-loop-number
invariant-loop-number g l =
    string_bytes l.text ++ flat_map change_text (map (λ pair. (pair.0, pair.1)) l.number-iterator)
    ≡ flat_map change_text (entries (state_shown l.changes))
