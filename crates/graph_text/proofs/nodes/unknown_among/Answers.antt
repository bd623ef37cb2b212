use Rattle.std.proofs.Common.{◌+◌, Contains, get_or, take, sym, ◌∙◌}
use Rattle.std.proofs.lemmas.Bool.{false≢true}
use Rattle.walk_core.specs.SortedLists.{taken_below}
use Rattle.state_core.specs.Known.{IsKnown}
use Rattle.graph_text.proofs.Kept.{kept_all, kept_skips, kept_takes, taken_grows}
use Rattle.graph_text.proofs.nodes.unknown_among.Goals as goal

pub loop-target-preserved-then-is_known : goal.loop-target-preserved-then-is_known
loop-target-preserved-then-is_known c =
    let targets = c.args.targets.now in
    let i = c.loop-target.target-index in
    kept_skips (λ number. ¬ IsKnown c.args.state.now number) (Contains (take i targets))
    (Contains (take (i + 1) targets)) c.loop-target.unknown.items (get_or targets i 0)
    c.loop-target.invariant (taken_grows targets i c.loop-target-test.true)
    (λ unknown. unknown (c.is_known.ensures.0 c.if-is_known.true))

pub loop-target-preserved : goal.loop-target-preserved
loop-target-preserved c =
    let targets = c.args.targets.now in
    let i = c.loop-target.target-index in
    kept_takes (λ number. ¬ IsKnown c.args.state.now number) (Contains (take i targets))
    (Contains (take (i + 1) targets)) c.loop-target.unknown.items (get_or targets i 0)
    c.loop-target.invariant (taken_grows targets i c.loop-target-test.true)
    (λ known. false≢true (sym c.if-is_known.false ∙ c.is_known.ensures.1 known))
    (taken_below targets i c.requires c.loop-target-test.true) c.push.new.self.items c.in_ok-push.ensures.items

pub returns : goal.returns
returns c =
    kept_all (λ number. ¬ IsKnown c.args.state.now number) c.args.targets.now c.loop-target.target-index c.loop-target.unknown.items c.loop-target-test.false c.loop-target.invariant
