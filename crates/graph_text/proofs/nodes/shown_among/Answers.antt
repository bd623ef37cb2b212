use Rattle.std.proofs.Common.{◌+◌, Contains, get_or, take}
use Rattle.walk_core.specs.SortedLists.{taken_below}
use Rattle.graph_text.specs.Places.{IsShown}
use Rattle.graph_text.proofs.Kept.{kept_skips, kept_takes, taken_grows}
use Rattle.graph_text.proofs.nodes.shown_among.Goals as goal

pub loop-place-preserved-then-not-is_shown : goal.loop-place-preserved-then-not-is_shown
loop-place-preserved-then-not-is_shown c =
    let places = c.args.places.now in
    let i = c.loop-place.place-index in
    kept_skips (IsShown c.args.state.now c.args.graph.now.items c.args.near.now.ahead.items c.args.near.now.behind.items) (Contains (take i places)) (Contains (take (i + 1) places))
    c.loop-place.shown.items (get_or places i 0) c.loop-place.invariant
    (taken_grows places i c.loop-place-test.true) c.if-not-is_shown.ensures

pub loop-place-preserved : goal.loop-place-preserved
loop-place-preserved c =
    let places = c.args.places.now in
    let i = c.loop-place.place-index in
    kept_takes (IsShown c.args.state.now c.args.graph.now.items c.args.near.now.ahead.items c.args.near.now.behind.items) (Contains (take i places)) (Contains (take (i + 1) places))
    c.loop-place.shown.items (get_or places i 0) c.loop-place.invariant
    (taken_grows places i c.loop-place-test.true) c.if-not-is_shown.ensures
    (taken_below places i c.requires.increasing c.loop-place-test.true) c.push.new.self.items c.in_ok-push.ensures.items
