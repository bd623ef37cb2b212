use Rattle.std.proofs.Common.{◌≡◌, ◌+◌, length, arith, ◌∙◌}
use Rattle.std.proofs.lemmas.List.{get_or-replicate}
use Rattle.std.proofs.lemmas.List.FromFn.{length-range_with_len, get_or-range_with_len}
use Rattle.walk_core.specs.declared.component.Place.TheVariants.{Waiting, OffCycle}
use Rattle.walk_core.proofs.Marks.{settled_waiting}
use Rattle.walk_core.proofs.Labelling.{found_none}
use Rattle.walk_core.proofs.cycles.Components.new.Goals as goal

pub returns : goal.returns
returns g c =
    let all = c.in_ok-places.ensures.items_if_clones_equal (λ place same. same) in
    let size = c.len.result in
    let same : c.len-2.result ≡ length c.args.graph.now = c.len-2.ensures in
    rw (all, c.in_ok-firsts.ensures, c.new-nodes.ensures.items)
    (found_none c.args.graph.now _ _ (settled_waiting c.args.graph.now size c.len.ensures)
    (λ x within. get_or-replicate size x Waiting OffCycle (omega (arith, within, c.len.ensures)))
    (length-range_with_len 0 c.len-2.result ∙ same)
    (λ x within. let zero_on : 0 + x ≡ x = omega arith in get_or-range_with_len 0 c.len-2.result x 0 (omega (arith, within, same)) ∙ zero_on))
