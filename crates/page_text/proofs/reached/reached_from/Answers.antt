use Rattle.std.proofs.Common.{◌<◌, ◌≤◌, arith, get_or, length, subst}
use Rattle.page_text.specs.Reached.{AddsNumbers, NamesFrom}
use Rattle.page_text.proofs.ReachedSteps.{begun, step, whole}
use Rattle.page_text.proofs.reached.reached_from.Goals as goal

pub loop-at-init : goal.loop-at-init
loop-at-init c =
    rw (c.in_ok-push.ensures.items, c.new-changes.ensures.items)
    (begun c.args.gate.now c.args.state.now c.args.item)

pub returns-then-found-gt-MOST : goal.returns-then-found-gt-MOST
returns-then-found-gt-MOST c =
    let many : 60 < length c.loop-at.changes.items
    = subst (λ l. 60 < length l) c.as_slice-found.ensures.value c.if-found-gt-MOST.true in
    whole c.args.gate.now c.args.state.now c.args.item c.loop-at.at c.loop-at.changes.items
    (λ few. absurd (omega arith)) c.loop-at.invariant

pub returns-then-found-at : goal.returns-then-found-at
returns-then-found-at c =
    whole c.args.gate.now c.args.state.now c.args.item c.loop-at.at c.loop-at.changes.items
    (λ few. subst (λ l. length l ≤ c.loop-at.at) c.as_slice-found.ensures.value c.if-found-at.true)
    c.loop-at.invariant

pub loop-at-preserved : goal.loop-at-preserved
loop-at-preserved c =
    let gate = c.args.gate.now in
    let state = c.args.state.now in
    let same = c.as_slice-found.ensures.value in
    step gate state c.args.item c.loop-at.at 0 c.loop-at.changes.items c.add_names.new.changes.items
    (subst (λ l. c.loop-at.at < length l) same c.if-found-at.false)
    c.loop-at.invariant
    (subst (λ l. AddsNumbers (NamesFrom gate state c.args.item (get_or l c.loop-at.at 0)) c.loop-at.changes.items
    c.add_names.new.changes.items) same c.in_ok-add_names.ensures)

pub returns : goal.returns
returns c =
    whole c.args.gate.now c.args.state.now c.args.item c.loop-at.at c.loop-at.changes.items
    (λ few. omega (arith, few, c.loop-at-test.false)) c.loop-at.invariant
