use Rattle.std.proofs.Common.{◌≡◌, ap, map, subst, sym, ◌∙◌}
use Rattle.std.specs.FinMap.{entries}
use Rattle.event_filter.specs.Asking.{Gains, IsChild}
use Rattle.event_filter.proofs.Asks.{SomeAsk, none_ask}
use Rattle.event_filter.proofs.Children.{AsksForChild, children, passed}
use Rattle.event_filter.proofs.asking.add_children.Goals as goal

pub loop-number-init : goal.loop-number-init
loop-number-init c = λ all gains.
    subst (λ es. Gains (SomeAsk (AsksForChild c.args.parent) es) c.args.asks.now all)
    (c.into_iter-number-iterator.ensures.into_iter_gives.1 ∙ ap entries c.changes-number-items.ensures) gains

pub loop-number-preserved : goal.loop-number-preserved
loop-number-preserved c =
    passed c.args.parent c.args.state.now (c.in-Some.number.now, c.in-Some.change.now)
    (map (λ pair. (pair.0, pair.1)) c.loop-number.number-iterator) (map (λ pair. (pair.0, pair.1)) c.next.new.self)
    c.args.asks.now c.loop-number.asks c.add_child.new.asks
    (ap (map (λ pair. (pair.0, pair.1))) c.in-Some.ensures.steps) c.loop-number.invariant
    (subst (λ change. Gains (λ other. (c.in-Some.number.now ≡ other) × IsChild change c.args.parent) c.loop-number.asks c.add_child.new.asks) c.get.ensures c.in_ok-add_child.ensures)

pub returns : goal.returns
returns c =
    children c.args.state.now c.args.parent c.args.asks.now c.loop-number.asks
    (c.loop-number.invariant c.loop-number.asks
    (subst (λ es. Gains (SomeAsk (AsksForChild c.args.parent) (map (λ pair. (pair.0, pair.1)) es)) c.loop-number.asks c.loop-number.asks)
    (sym c.in-None.ensures.steps.0) (none_ask (AsksForChild c.args.parent) c.loop-number.asks)))
