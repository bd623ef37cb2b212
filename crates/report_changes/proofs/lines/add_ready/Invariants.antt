use Rattle.std.proofs.Common.{◌≡◌, ◌++◌, map, not, take}
use Rattle.std.specs.Prelude.{filter}
use Rattle.report_changes.specs.declared.lines.Line.TheVariants.{Ready}
use Rattle.report_changes.specs.Listing.{is_ready}
use Rattle.report_changes.proofs.lines.add_ready.Given as goal

-- the lines of the items so far are added
abbrev pub invariant-loop-item : goal.invariant-loop-item
invariant-loop-item l = l.lines.items ≡ l.initial.lines.items ++ map Ready (filter (λ item. not (is_ready l.old item)) (take l.item-index l.items))
