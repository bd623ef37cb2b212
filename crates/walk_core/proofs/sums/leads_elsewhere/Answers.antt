use Rattle.std.proofs.Common.{slice_index, arith}
use Rattle.std.proofs.lemmas.List.{get_or_default}
use Rattle.std.proofs.lemmas.List.Elements.{Contains-get_or}
use Rattle.walk_core.specs.Sums.{IsHereOrNext}
use Rattle.walk_core.proofs.Exits.{each_more, each_all}
use Rattle.walk_core.proofs.sums.leads_elsewhere.Goals as goal

pub bounds-firsts-end : goal.bounds-firsts-end
bounds-firsts-end c = c.requires _ (Contains-get_or c.args.ends.now c.loop-end.end-index 0 c.loop-end-test.true)

pub offset_bounds-firsts-end : goal.offset_bounds-firsts-end
offset_bounds-firsts-end c =
    let inside = c.requires _ (Contains-get_or c.args.ends.now c.loop-end.end-index 0 c.loop-end-test.true) in
    omega (arith, inside)

pub loop-end-preserved : goal.loop-end-preserved
loop-end-preserved c =
    let ends = c.args.ends.now in
    each_more (IsHereOrNext c.args.firsts.now c.args.first c.args.next) ends c.loop-end.end-index
    (slice_index ends c.loop-end.end-index) c.loop-end-test.true
    (get_or_default ends c.loop-end.end-index 0 _ c.loop-end-test.true) c.loop-end.invariant c.if-is_elsewhere.ensures

pub returns : goal.returns
returns c = each_all (IsHereOrNext c.args.firsts.now c.args.first c.args.next) c.args.ends.now c.loop-end.end-index 0 c.loop-end-test.false c.loop-end.invariant
