use Rattle.std.proofs.Common.{refl, subst, sym}
use Rattle.page_text.specs.Rowless.{IsRowless, begun_in}
use Rattle.page_text.proofs.RowlessSteps.{nothing_added, one_piece, reason_rowless}
use Rattle.page_text.proofs.links.add_reason.Goals as goal

pub returns-in-Some : goal.returns-in-Some
unfolding begun_in
returns-in-Some c =
    c.fill.ensures refl (one_piece _ (subst IsRowless (sym c.reason_name.ensures) (reason_rowless c.in-Some.reason)))

pub returns-in_default : goal.returns-in_default
returns-in_default c = nothing_added c.args.page.now
