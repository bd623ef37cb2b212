use Rattle.std.proofs.Common.{flat_map, take}
use Rattle.markup_text.specs.Growing.{Adds}
use Rattle.page_text.specs.Metrics.{held_text}
use Rattle.page_text.proofs.metrics.add_all_held.Given as goal

-- what is held by those so far is added
abbrev pub invariant-loop-held : goal.invariant-loop-held
invariant-loop-held l =
    Adds (flat_map (held_text l.out) (take l.held-index l.all)) l.initial.text l.text
