use Rattle.std.proofs.Common.{◌≡◌, ap, subst, ◌∙◌, take, option_map}
use Rattle.std.proofs.lemmas.List.{take_all}
use Rattle.std.specs.BTreeMap.{is_at}
use Rattle.std.specs.List.{list_any}
use Rattle.std.specs.Ordering.{nat_cmp}
use Rattle.event_filter.specs.Asking.{Gains, IsAskedBy, says_open}
use Rattle.event_filter.proofs.Asks.{SomeAsk, asks_more, gains_alone}
use Rattle.event_filter.proofs.asking.asked.Goals as goal

pub loop-finding-preserved : goal.loop-finding-preserved
loop-finding-preserved c =
    asks_more (IsAskedBy c.args.state.now (option_map (λ bases. bases.now) c.args.bases) c.args.parsed.now.part c.says_open-is_open.result)
    c.as_slice-finding-items.result.now c.loop-finding.finding-index c.finding-item.result c.loop-finding-test.true
    c.new-asks.result c.loop-finding.asks c.add_asked.new.asks c.loop-finding.invariant
    (subst (λ finding. Gains (IsAskedBy c.args.state.now (option_map (λ bases. bases.now) c.args.bases) c.args.parsed.now.part c.says_open-is_open.result finding) c.loop-finding.asks c.add_asked.new.asks)
    c.finding-item.is (subst (λ part. Gains (IsAskedBy c.args.state.now (option_map (λ bases. bases.now) c.args.bases) part c.says_open-is_open.result c.finding-item.result) c.loop-finding.asks c.add_asked.new.asks)
    (ap (λ parsed. parsed.part) c.parsed.view_is) c.in_ok-add_asked.ensures))

pub returns : goal.returns
returns c =
    let all : take c.loop-finding.finding-index c.as_slice-finding-items.result.now ≡ c.args.parsed.now.findings =
    take_all c.loop-finding.finding-index c.as_slice-finding-items.result.now c.loop-finding-test.false
    ∙ c.as_slice-finding-items.ensures.value ∙ ap (λ parsed. parsed.findings) c.parsed.view_is in
    let open_too : c.says_open-is_open.result ≡ list_any says_open c.args.parsed.now.findings =
    c.says_open-is_open.ensures
    ∙ ap (list_any says_open) (c.as_slice.ensures.value ∙ ap (λ parsed. parsed.findings) c.parsed.view_is) in
    gains_alone
    (SomeAsk (IsAskedBy c.args.state.now (option_map (λ bases. bases.now) c.args.bases) c.args.parsed.now.part (list_any says_open c.args.parsed.now.findings)) c.args.parsed.now.findings)
    c.new-asks.result c.loop-finding.asks
    (λ n. ap (λ keys. list_any (is_at (nat_cmp n)) keys) c.new-asks.ensures.empty)
    (subst (λ is. Gains (SomeAsk (IsAskedBy c.args.state.now (option_map (λ bases. bases.now) c.args.bases) c.args.parsed.now.part is) c.args.parsed.now.findings) c.new-asks.result c.loop-finding.asks)
    open_too
    (subst (λ xs. Gains (SomeAsk (IsAskedBy c.args.state.now (option_map (λ bases. bases.now) c.args.bases) c.args.parsed.now.part c.says_open-is_open.result) xs) c.new-asks.result c.loop-finding.asks)
    all c.loop-finding.invariant))
