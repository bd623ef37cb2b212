use Rattle.std.proofs.Common.{◌≡◌, ◌+◌, ◌<◌, ℕ, get_or}
use Rattle.std.specs.declared.cmp.Ordering.TheVariants.{Less}
use Rattle.state_core.specs.declared.item.Item.{Item}
use Rattle.state_core.specs.Items.{item_cmp}
use Rattle.enqueue_lines.proofs.items.has_twice.Given as goal

-- each of the items so far comes before the next
abbrev pub invariant-loop-index : goal.invariant-loop-index
invariant-loop-index l =
    (k : ℕ) (d : Item) → k + 1 < l.index → item_cmp (get_or l.ordered k d) (get_or l.ordered (k + 1) d) ≡ Less
