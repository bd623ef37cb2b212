use Rattle.std.proofs.Common.{[], ◌∷◌}
use Rattle.json.specs.Token.{string}
use Rattle.report_text.specs.Report.{item_text}
use Rattle.page_text.proofs.Marks.{notes_more, notes_none}
use Rattle.page_text.proofs.waiting.put_items.Goals as goal

pub loop-item-init : goal.loop-item-init
loop-item-init c = notes_none c.args.out.now

pub loop-item-preserved : goal.loop-item-preserved
loop-item-preserved c =
    notes_more (λ item. string (item_text item) ∷ []) c.args.items.now c.loop-item.item-index _ c.loop-item-test.true
    c.loop-item.invariant c.put_item.ensures
