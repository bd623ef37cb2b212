use Rattle.std.proofs.Common.{get_or, take, sym, subst}
use Rattle.std.proofs.lemmas.List.{take_more}
use Rattle.serde_json.specs.View.{view, items_view}
use Rattle.op_text.specs.Front.{IsEntry, IsList}
use Rattle.op_text.proofs.Fronts.{AreEntries-at, AreEntries-push, refuses_front}
use Rattle.op_text.proofs.front.read_entries.Goals as goal

-- the value at hand is no entry
pub returns-in_default-clause-refused : goal.returns-in_default-clause-refused
returns-in_default-clause-refused c =
    let values = c.deref-value-items.result.now in
    let is_list = subst (λ vs. IsList c.args.bytes.now (items_view vs)) (sym c.deref-value-items.ensures.value) c.in_ok-values.ensures.ok in
    refuses_front c.args.bytes.now c.bad_shape.result (items_view values) c.bad_shape.ensures is_list (λ entries are.
    let at = AreEntries-at values entries c.loop-value.value-index c.value-item.result c.loop-value-test.true are in
    c.in_default.ensures.none at.0 (subst (λ v. IsEntry (view v) at.0) (sym c.value-item.is) at.1))

pub loop-value-preserved : goal.loop-value-preserved
loop-value-preserved c =
    let values = c.deref-value-items.result.now in
    let more = take_more values c.loop-value.value-index c.value-item.result c.loop-value-test.true in
    let entry = subst (λ v. IsEntry (view v) c.in-Some.entry) c.value-item.is c.in-Some.ensures.some in
    rw (more, c.in_ok-push.ensures.items)
    (AreEntries-push (take c.loop-value.value-index values) c.loop-value.entries.items (get_or values c.loop-value.value-index c.value-item.result) c.in-Some.entry c.loop-value.invariant entry)
