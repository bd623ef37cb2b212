use Rattle.page_text.specs.Metrics.{held_text}
use Rattle.page_text.proofs.Adding.{adds_more, adds_none}
use Rattle.page_text.proofs.metrics.add_all_held.Goals as goal

pub loop-held-init : goal.loop-held-init
loop-held-init c = adds_none c.args.text.now

pub loop-held-preserved : goal.loop-held-preserved
loop-held-preserved c =
    adds_more (held_text c.args.out.now) c.args.all.now c.loop-held.held-index _ c.args.text.now c.loop-held.text
    c.add_held_by.new.text c.loop-held-test.true c.loop-held.invariant c.add_held_by.ensures
