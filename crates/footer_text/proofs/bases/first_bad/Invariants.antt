use Rattle.std.proofs.Common.{◌≤◌, map, take}
use Rattle.std.specs.List.{All}
use Rattle.footer_text.specs.Bases.{IsBase}
use Rattle.footer_text.proofs.bases.first_bad.Given as goal

-- the texts so far are bases
abbrev pub invariant-loop-place : goal.invariant-loop-place
invariant-loop-place l = All IsBase (take l.place (map (λ text. text.now) l.texts)) × (l.place ≤ 8)
