use Rattle.std.proofs.Common.{◌≡◌, subst, ◌∙◌, take}
use Rattle.std.proofs.lemmas.List.{take_all}
use Rattle.std.specs.Prelude.{◌≢◌}
use Rattle.footer_text.specs.Footers.{MessageNeeds}
use Rattle.event_filter.specs.Asking.{Gains, IsUnknown}
use Rattle.event_filter.proofs.Asks.{SomeAsk, asks_more, gains_named}
use Rattle.event_filter.proofs.asking.add_needs.Goals as goal

pub loop-need-preserved : goal.loop-need-preserved
loop-need-preserved c =
    asks_more (λ need other. (need ≡ other) × (other ≢ c.args.change) × IsUnknown c.args.state.now other)
    c.as_slice-need-items.result.now c.loop-need.need-index 0 c.loop-need-test.true c.args.asks.now c.loop-need.asks
    c.add_unknown.new.asks c.loop-need.invariant c.in_ok-add_unknown.ensures

pub returns : goal.returns
returns c =
    let all : take c.loop-need.need-index c.as_slice-need-items.result.now ≡ c.in_ok-footers.footers.needs.items =
    take_all c.loop-need.need-index c.as_slice-need-items.result.now c.loop-need-test.false
    ∙ c.as_slice-need-items.ensures.value in
    gains_named (MessageNeeds c.args.bases.now c.args.change c.args.message.now) (λ n. n ≢ c.args.change)
    (IsUnknown c.args.state.now) c.in_ok-footers.footers.needs.items c.args.asks.now c.loop-need.asks
    c.in_ok-footers.ensures.needed
    (subst (λ xs. Gains (SomeAsk (λ need other. (need ≡ other) × (other ≢ c.args.change) × IsUnknown c.args.state.now other) xs) c.args.asks.now c.loop-need.asks) all c.loop-need.invariant)
