use Rattle.std.proofs.Common.{◌≡◌, ℕ, ◌++◌, List, length}
use denote.Text.{Utf8}
use denote.Shadow.{shadow}
use Rattle.std.specs.List.{AllByRecursion}
use Rattle.footer_text.specs.Lines.{IsBlank}
use Rattle.footer_text.proofs.footer.without_last_blanks.Given as goal

-- blanks come after the rest
abbrev pub invariant-loop-before : goal.invariant-loop-before
invariant-loop-before l =
    shadow (Utf8 l.rest) × ((after : List ℕ) × AllByRecursion IsBlank after × (l.text ≡ l.rest ++ after))

abbrev pub decreases-loop-before : goal.decreases-loop-before
decreases-loop-before l = length l.rest
