use Rattle.std.proofs.Common.{◌∙◌, ap, sym}
use Rattle.std.proofs.lemmas.Option.{get_or_from_slice_get}
use Rattle.ready_core.specs.declared.verdicts.Left.{Left}
use Rattle.watch_core.specs.Placed.{left_item}
use Rattle.lattice_core.specs.PlaceLaws.{Contains-at}
use Rattle.watch_core.proofs.Exchange.{one_each_sorted}
use Rattle.watch_core.proofs.kept.kept_own.Goals as goal

pub returns-in_err-place : goal.returns-in_err-place
returns-in_err-place c =
    rw c.from_residual.ensures (λ condition is_out. c.in_err-place.ensures is_out.left is_out.there is_out.of)

pub returns-in-Own : goal.returns-in-Own
returns-in-Own c =
    let at = c.in_ok-place.ensures in
    let read = get_or_from_slice_get c.args.out.now c.in_ok-place.place at.left _ at.here in
    record {
      left = at.left;
      there = Contains-at c.args.out.now c.in_ok-place.place at.left at.here;
      of = at.of;
      own = sym (ap (λ (l : Left). l.refusal) read) ∙ c.in-Own.is;
    }

pub returns-in_default : goal.returns-in_default
returns-in_default c = λ condition is_out.
    let at = c.in_ok-place.ensures in
    let read = get_or_from_slice_get c.args.out.now c.in_ok-place.place at.left _ at.here in
    let each = one_each_sorted left_item c.args.out.now c.requires in
    let same = each.one is_out.left at.left is_out.there (Contains-at c.args.out.now c.in_ok-place.place at.left at.here) (is_out.of ∙ sym at.of) in
    c.in_default.not-Own condition (ap (λ (l : Left). l.refusal) (read ∙ sym same) ∙ is_out.own)
