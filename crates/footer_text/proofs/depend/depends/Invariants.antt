use Rattle.std.proofs.Common.{◌≡◌, ◌++◌, ℕ, List, map}
use Rattle.std.specs.Option.{option_map}
use Rattle.footer_text.specs.Footers.{AreCollected}
use Rattle.footer_text.specs.Lines.{lines_of}
use Rattle.footer_text.proofs.LineCuts.{lines_left, left_length}
use Rattle.footer_text.proofs.depend.depends.Given as goal

-- what the lines so far say, and that the others are left
abbrev pub invariant-loop-rest : goal.invariant-loop-rest
invariant-loop-rest g l = (lines : List (List ℕ))
    × AreCollected l.bases l.change lines l.found.needs.items (map (λ value. value.now) l.found.ignored.items)
    × (lines ++ lines_left (option_map (λ text. text.now) l.rest) ≡ lines_of l.message)

abbrev pub decreases-loop-rest : goal.decreases-loop-rest
decreases-loop-rest g l = left_length (option_map (λ text. text.now) l.rest)
