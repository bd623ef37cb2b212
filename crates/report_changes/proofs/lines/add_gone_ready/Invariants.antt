use Rattle.std.proofs.Common.{◌≡◌, ◌++◌, map, not, take}
use Rattle.std.specs.Prelude.{filter}
use Rattle.report_changes.specs.declared.lines.Line.TheVariants.{Gone}
use Rattle.report_changes.specs.Listing.{is_listed}
use Rattle.report_changes.proofs.lines.add_gone_ready.Given as goal

-- the lines of the items so far are added
abbrev pub invariant-loop-item : goal.invariant-loop-item
invariant-loop-item l = l.lines.items ≡ l.initial.lines.items ++ map Gone (filter (λ item. not (is_listed l.new item)) (take l.item-index l.items))
