use Rattle.std.proofs.Common.{arith, subst}
use Rattle.std.proofs.lemmas.List.Elements.{all_zip_more}
use Rattle.graph_core.specs.Listed.{ArePlaces}
use Rattle.graph_core.proofs.targets.all_ends.Goals as goal

pub loop-row-preserved : goal.loop-row-preserved
loop-row-preserved c =
    rw c.in_ok-push.ensures.items
    (all_zip_more _ c.args.rows.now c.loop-row.ends.items c.loop-row.row-index c.row-item.result c.in_ok-places_of.field-0 (omega arith) c.row-item.is c.loop-row.invariant
    (subst (λ l. ArePlaces c.args.items.now l c.in_ok-places_of.field-0.items) c.as_slice.ensures.value c.in_ok-places_of.ensures))
