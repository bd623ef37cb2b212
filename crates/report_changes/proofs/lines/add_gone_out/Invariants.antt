use Rattle.std.proofs.Common.{◌≡◌, ◌++◌, map, not, take}
use Rattle.std.specs.Prelude.{filter}
use Rattle.report_changes.specs.declared.lines.Line.TheVariants.{Gone}
use Rattle.report_changes.specs.Listing.{is_listed}
use Rattle.report_changes.proofs.lines.add_gone_out.Given as goal

-- the lines of those so far are added
abbrev pub invariant-loop-left : goal.invariant-loop-left
invariant-loop-left l =
    l.lines.items
    ≡ l.initial.lines.items
    ++ map (λ left. Gone left.item) (filter (λ left. not (is_listed l.new left.item)) (take l.left-index l.out))
