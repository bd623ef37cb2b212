use Rattle.std.proofs.Common.{Contains, take}
use Rattle.page_text.specs.Reached.{AddsNumbers}
use Rattle.page_text.proofs.reached.add_new.Given as goal

-- the numbers so far are added
abbrev pub invariant-loop-number : goal.invariant-loop-number
invariant-loop-number l =
    AddsNumbers (Contains (take l.number-index l.more)) l.initial.numbers.items l.numbers.items
