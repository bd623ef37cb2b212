use Rattle.std.proofs.Common.{sym, ap}
use Rattle.std.proofs.lemmas.Option.{slice_get_within, get_or_from_slice_get}
use Rattle.lattice_core.specs.MemberLaws.{Contains-of_map}
use Rattle.lattice_core.specs.PlaceLaws.{Contains-at}
use Rattle.ready_core.specs.declared.verdicts.Left.{Left}
use Rattle.graph_text.proofs.nodes.refusal_of.Goals as goal

pub returns-in_err-place : goal.returns-in_err-place
returns-in_err-place c = rw c.from_residual.ensures (λ has.
    let left = Contains-of_map (λ (left : Left). left.item) c.args.out.now c.args.item has in
    c.in_err-place.ensures left.0 left.1 left.2)

pub bounds-out-place : goal.bounds-out-place
bounds-out-place c = let at = c.in_ok-place.ensures in
    slice_get_within c.args.out.now c.in_ok-place.place at.left at.here

pub returns : goal.returns
returns c =
    let at = c.in_ok-place.ensures in
    let place = c.in_ok-place.place in (
      at.left,
      Contains-at c.args.out.now place at.left at.here,
      at.of,
      ap (λ (left : Left). left.refusal) (sym (get_or_from_slice_get c.args.out.now place at.left _ at.here)),
    )
