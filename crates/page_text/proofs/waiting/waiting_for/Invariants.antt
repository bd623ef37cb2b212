use Rattle.std.proofs.Common.{◌≡◌, ◌++◌, take}
use Rattle.page_text.specs.Waiting.{waiting_for}
use Rattle.page_text.proofs.waiting.waiting_for.Given as goal

-- the items of the verdicts so far are there
abbrev pub invariant-loop-left : goal.invariant-loop-left
invariant-loop-left l = l.items.items ≡ l.initial.items.items ++ waiting_for l.change (take l.left-index l.out)
