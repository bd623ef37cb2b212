use Rattle.std.proofs.Common.{take, get_or, ◌∙◌, sym, subst, arith}
use Rattle.std.proofs.lemmas.List.{take_more, take_all}
use Rattle.graph_core.specs.Closure.{AddsCurrent}
use Rattle.graph_core.proofs.Closing.{adds_ends, adds_more, adds_none}
use Rattle.graph_core.proofs.part.add_ends.Goals as goal

pub loop-number-init : goal.loop-number-init
loop-number-init c = adds_none c.args.state.now c.args.ahead.now.items

pub loop-number-preserved : goal.loop-number-preserved
loop-number-preserved c =
    let numbers = c.deref-number-items.result.now in
    let index = c.loop-number.number-index in
    subst (λ l. AddsCurrent c.args.state.now l c.args.ahead.now.items c.add_current.new.ahead.items)
    (sym (take_more numbers index 0 (omega arith)))
    (adds_more c.args.state.now (take index numbers) (get_or numbers index 0) c.args.ahead.now.items c.loop-number.ahead.items c.add_current.new.ahead.items c.loop-number.invariant c.in_ok-add_current.ensures)

pub returns : goal.returns
returns c =
    let numbers = c.deref-number-items.result.now in
    adds_ends c.args.state.now c.args.gate.now c.args.item c.in_ok-targets.targets.items c.args.ahead.now.items c.loop-number.ahead.items c.in_ok-targets.ensures
    (subst (λ l. AddsCurrent c.args.state.now l c.args.ahead.now.items c.loop-number.ahead.items) (take_all c.loop-number.number-index numbers (omega arith) ∙ c.deref-number-items.ensures.value) c.loop-number.invariant)
