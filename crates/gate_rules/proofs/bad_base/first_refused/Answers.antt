use Rattle.std.proofs.Common.{Some, ap, map}
use Rattle.serde_json.specs.View.{view}
use Rattle.gate_rules.proofs.BadItems.{none_refused, refused_here, same_refused, taken_all}
use Rattle.gate_rules.proofs.bad_base.first_refused.Goals as goal

pub returns-in-Some-clause-only : goal.returns-in-Some-clause-only
returns-in-Some-clause-only c = λ bad h.
    let laws = c.bases_have_no_flaw.ensures in
    ap Some (same_refused laws.none laws.one (map view c.args.items.now) _ bad
    (refused_here c.args.items.now c.loop-place.place c.index-items-place.result c.in-Some.flaw c.loop-place-test.true
    c.index-items-place.is c.in-Some.ensures c.loop-place.invariant) h)

pub returns-clause-only : goal.returns-clause-only
returns-clause-only c = λ bad h.
    let laws = c.bases_have_no_flaw.ensures in
    absurd (none_refused laws.none laws.one (map view c.args.items.now)
    (taken_all c.args.items.now c.loop-place.place c.loop-place-test.false c.loop-place.invariant) bad h)
