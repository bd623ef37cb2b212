use Rattle.std.proofs.Common.{ap, ◌∙◌}
use Rattle.std.proofs.lemmas.List.Elements.{Contains-get_or}
use Rattle.std.proofs.lemmas.Option.{slice_get_within, get_or_from_slice_get}
use Rattle.ready_core.specs.declared.verdicts.Left.{Left}
use Rattle.page_text.proofs.OutSteps.{none_left}
use Rattle.page_text.proofs.chain.left_at.Goals as goal

pub returns-in_err-place : goal.returns-in_err-place
returns-in_err-place c = rw c.from_residual.ensures (none_left c.args.out.now c.args.item c.in_err-place.ensures)

pub bounds-out-place : goal.bounds-out-place
bounds-out-place c =
    slice_get_within c.args.out.now c.in_ok-place.place c.in_ok-place.ensures.left c.in_ok-place.ensures.here

pub returns : goal.returns
returns c =
    let at = c.in_ok-place.ensures in
    record {
      there = Contains-get_or c.args.out.now c.in_ok-place.place _
          (slice_get_within c.args.out.now c.in_ok-place.place at.left at.here);
      of = ap (λ (left : Left). left.item)
          (get_or_from_slice_get c.args.out.now c.in_ok-place.place at.left _ at.here) ∙ at.of;
    }
