use Rattle.std.proofs.Common.{◌≡◌, ◌++◌, codes, decimal, flat_map, string_bytes, take}
use Rattle.query_plan.proofs.run.text_of_changes.Given as goal

-- those so far are named
abbrev pub invariant-loop-change : goal.invariant-loop-change
invariant-loop-change l = string_bytes l.text
    ≡ codes "changes" ++ flat_map (λ change. codes " " ++ decimal change) (take l.change-index l.named)
