use Rattle.std.proofs.lemmas.Option.{slice_get_within}
use Rattle.report_changes.proofs.Members.{none_out, refused_at}
use Rattle.report_changes.proofs.listed.refusal_in.Goals as goal

pub returns-in_err-place : goal.returns-in_err-place
returns-in_err-place c = rw c.from_residual.ensures (none_out c.args.out.now c.args.item c.in_err-place.ensures)

pub bounds-out-place : goal.bounds-out-place
bounds-out-place c = slice_get_within c.args.out.now c.in_ok-place.place c.in_ok-place.ensures.left c.in_ok-place.ensures.here

pub returns : goal.returns
returns c = refused_at c.args.out.now c.args.item c.in_ok-place.place _ c.in_ok-place.ensures
