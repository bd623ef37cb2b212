use Rattle.std.proofs.Common.{◌≡◌, ◌∙◌, ◌<◌, ◌+◌, ◌-◌, ℕ, false, arith, sym, subst, get_or}
use Rattle.std.specs.declared.cmp.Ordering.TheVariants.{Less}
use Rattle.state_core.specs.declared.item.Item.{Item}
use Rattle.state_core.specs.Items.{item_cmp}
use Rattle.report_changes.specs.Listing.{is_same_item}
use native.Mathlib.Decide.{dec_lt}
use Rattle.enqueue_lines.proofs.Members.{all_apart, next_less, not_apart, no_item}
use Rattle.enqueue_lines.proofs.items.has_twice.Goals as goal

pub returns-then-eq : goal.returns-then-eq
returns-then-eq c =
    not_apart c.args.ordered.now (c.loop-index.index - 1) c.loop-index.index _ (omega arith) c.loop-index-test.true
    (sym c.eq.ensures ∙ c.if-eq.true)

pub returns : goal.returns
returns c =
    all_apart c.args.ordered.now no_item (λ k within. c.loop-index.invariant k no_item (omega arith))

pub loop-index-preserved : goal.loop-index-preserved
loop-index-preserved c = λ k d within.
    elim (dec_lt (k + 1) c.loop-index.index) [
      | Prim.yes less ↦ c.loop-index.invariant k d less
      | Prim.no last ↦ next_less c.args.ordered.now c.loop-index.index k d _ _ c.loop-index.auto.index c.loop-index-test.true
          (omega (arith, within, last)) c.requires (sym c.eq.ensures ∙ c.if-eq.false)
    ]
