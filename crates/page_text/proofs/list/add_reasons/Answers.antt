use Rattle.std.proofs.Common.{refl, subst, sym}
use Rattle.std.specs.Prelude.{codes}
use Rattle.page_text.specs.Rowless.{IsRowless, begun_in}
use Rattle.page_text.proofs.RowlessSteps.{html_added, nothing_added, reason_rowless, rowless_then}
use Rattle.page_text.proofs.list.add_reasons.Goals as goal

pub loop-reason-init : goal.loop-reason-init
loop-reason-init c = nothing_added c.add.new.self

pub add_reason-requires : goal.add_reason-requires
add_reason-requires c = subst IsRowless (sym c.reason_name.ensures) (reason_rowless _)

pub loop-reason-preserved : goal.loop-reason-preserved
loop-reason-preserved c =
    rowless_then c.add.new.self c.loop-reason.page c.add_reason.new.page c.loop-reason.invariant c.add_reason.ensures

pub returns : goal.returns
unfolding begun_in
returns c =
    let begins = html_added (codes "<h2>Why open items wait</h2>\n<ul>\n") c.args.page.now c.add.new.self refl c.add.ensures in
    let ends = html_added (codes "</ul>\n") c.loop-reason.page c.add-2.new.self refl c.add-2.ensures in
    rowless_then c.args.page.now c.loop-reason.page c.add-2.new.self
    (rowless_then c.args.page.now c.add.new.self c.loop-reason.page begins c.loop-reason.invariant) ends
