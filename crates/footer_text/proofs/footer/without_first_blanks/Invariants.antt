use Rattle.std.proofs.Common.{◌≡◌, ℕ, ◌++◌, List, length}
use denote.Text.{Utf8}
use denote.Shadow.{shadow}
use Rattle.std.specs.List.{AllByRecursion}
use Rattle.footer_text.specs.Lines.{IsBlank}
use Rattle.footer_text.proofs.footer.without_first_blanks.Given as goal

-- blanks come before the rest
abbrev pub invariant-loop-after : goal.invariant-loop-after
invariant-loop-after l =
    shadow (Utf8 l.rest) × ((before : List ℕ) × AllByRecursion IsBlank before × (l.text ≡ before ++ l.rest))

abbrev pub decreases-loop-after : goal.decreases-loop-after
decreases-loop-after l = length l.rest
