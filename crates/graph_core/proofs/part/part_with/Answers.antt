use Rattle.std.proofs.Common.{subst, arith}
use Rattle.std.proofs.lemmas.List.Elements.{All-contains}
use Rattle.std.proofs.lemmas.Result.{IfOk-weaker}
use Rattle.state_core.specs.Items.{IsItem}
use Rattle.graph_core.specs.Closure.{IsClosing}
use Rattle.graph_core.proofs.Building.{whole_is_part}
use Rattle.graph_core.proofs.Closing.{closing_first, closing_on, handed_has, handed_is_part, next_is_item}
use Rattle.graph_core.proofs.part.part_with.Goals as goal

pub loop-init : goal.loop-init
loop-init c = closing_first c.args.gate.now c.args.state.now c.args.items.items c.new-found.result c.new-found.ensures.empty c.requires

pub find_item-requires : goal.find_item-requires
find_item-requires c =
    next_is_item c.args.gate.now c.args.state.now c.args.items.items c.loop.found c.loop.ahead.items c.pop.new.self.items c.in-Some.item c.in-Some.ensures.items c.loop.invariant

pub loop-preserved : goal.loop-preserved
loop-preserved c =
    closing_on c.args.gate.now c.args.state.now c.args.items.items c.loop.found c.find_item.new.found c.pop.new.self.items c.find_item.new.ahead.items c.in-Some.item c.in_ok-find_item.ensures
    (subst (IsClosing c.args.gate.now c.args.state.now c.args.items.items c.loop.found) c.in-Some.ensures.items c.loop.invariant)

pub returns-in_default-clause-part : goal.returns-in_default-clause-part
returns-in_default-clause-part c =
    handed_is_part c.args.gate.now c.args.state.now c.args.items.items c.loop.found c.loop.ahead.items c.loop.invariant
    (omega (arith, c.in_default.ensures.cases.0, c.loop.ahead.ok.0))
    (λ part. part.items) c.listed.result c.listed.ensures.in_order c.listed.ensures.each

pub returns-in_default-clause-items : goal.returns-in_default-clause-items
returns-in_default-clause-items c =
    handed_has c.args.gate.now c.args.state.now c.args.items.items c.loop.found c.loop.ahead.items c.loop.invariant
    (omega (arith, c.in_default.ensures.cases.0, c.loop.ahead.ok.0))
    (λ part. part.items) c.listed.result c.listed.ensures.each

pub returns-clause-part : goal.returns-clause-part
returns-clause-part c = IfOk-weaker c.items_of.result _ _
    (λ part are. whole_is_part c.args.gate.now c.args.state.now part.items are) c.items_of.ensures

pub returns-clause-items : goal.returns-clause-items
returns-clause-items c =
    IfOk-weaker c.items_of.result _ _ (λ part are item given. (are.each item).1 (All-contains (IsItem c.args.state.now) c.args.items.items item c.requires given)) c.items_of.ensures
