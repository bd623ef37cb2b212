use Rattle.std.proofs.Common.{◌≡◌, drop, map}
use Rattle.command_line.specs.Asking.{has_repeat}
use Rattle.command_line.proofs.addresses.has_repeat.Given as goal

-- a word is there twice if it is among those that are left
abbrev pub invariant-loop-number : goal.invariant-loop-number
invariant-loop-number l =
    has_repeat (map (λ word. word.now) (drop l.number l.words)) ≡ has_repeat (map (λ word. word.now) l.words)
