use Rattle.std.proofs.Common.{◌≡◌, ◌++◌, map, not, take}
use Rattle.std.specs.Prelude.{filter}
use Rattle.report_changes.specs.declared.lines.Line.TheVariants.{Out}
use Rattle.report_changes.specs.Listing.{is_out_for}
use Rattle.report_changes.proofs.lines.add_out.Given as goal

-- the lines of those so far are added
abbrev pub invariant-loop-left : goal.invariant-loop-left
invariant-loop-left l = l.lines.items ≡ l.initial.lines.items ++ map Out (filter (λ left. not (is_out_for l.old left)) (take l.left-index l.out))
