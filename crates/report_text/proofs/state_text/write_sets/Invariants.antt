use Rattle.std.proofs.Common.{◌≡◌, ◌++◌, map, flat_map, string_bytes}
use Rattle.std.specs.FinMap.{entries}
use Rattle.change_core.specs.Parts.{patch_of, sets_shown}
use Rattle.report_text.specs.StateText.{set_line}
use Rattle.report_text.proofs.state_text.write_sets.Given as goal

-- what is written, with the lines that are left, is the whole
abbrev pub invariant-loop-set : goal.invariant-loop-set
invariant-loop-set g l =
    string_bytes l.text ++ flat_map (set_line l.number)
    (map (λ pair. (pair.0, (pair.1.0, patch_of pair.1.1))) l.set-iterator)
    ≡ string_bytes l.initial.text ++ flat_map (set_line l.number) (entries (sets_shown l.sets))
