use Rattle.std.proofs.Common.{◌≡◌, Bool, true, false, ap, map, refl, subst, sym}
use Rattle.std.specs.BTreeSet.{contains}
use Rattle.std.specs.Ordering.{nat_cmp}
use Rattle.std.specs.Prelude.{◌&&◌, not}
use Rattle.change_core.specs.Views.{status_of}
use Rattle.review_ops.specs.Deed.{abandon}
use Rattle.event_filter.specs.Bringing.{AreBodies}
use Rattle.event_filter.specs.Vanishing.{abandons, abandons_among, has_vanished, is_new}
use Rattle.event_filter.proofs.Bodies.{completed, passed_more}
use Rattle.event_filter.proofs.vanishing.vanished.Goals as goal

both : (a b : Bool) → a ≡ true → b ≡ false → (a && not b) ≡ true
both true false e f = refl
both true true e f = cc
both false b e f = cc

pub loop-number-preserved-then-not-contains : goal.loop-number-preserved-then-not-contains
loop-number-preserved-then-not-contains c =
    let open_one : is_new (status_of c.in-Some.change.now) ≡ true = cc in
    let unlisted : contains nat_cmp c.args.listed.now c.in-Some.number.now ≡ false = cc in
    passed_more (has_vanished c.args.listed.now) (λ entry. abandon entry.0) (abandons c.args.listed.now c.args.state.now)
    (c.in-Some.number.now, c.in-Some.change.now)
    (map (λ pair. (pair.0, pair.1)) c.loop-number.number-iterator) (map (λ pair. (pair.0, pair.1)) c.next.new.self)
    (ap (map (λ pair. (pair.0, pair.1))) c.in-Some.ensures.steps) c.loop-number.bodies.items c.add_body.new.bodies.items
    (both _ _ open_one unlisted) c.loop-number.invariant c.in_ok-add_body.ensures

pub returns : goal.returns
returns c = completed (abandons c.args.listed.now c.args.state.now) c.loop-number.bodies.items
    (λ rest none. c.loop-number.invariant rest
    (subst (λ xs. AreBodies (abandons_among c.args.listed.now (map (λ pair. (pair.0, pair.1)) xs)) rest)
    (sym c.in-None.ensures.steps.0) none))
