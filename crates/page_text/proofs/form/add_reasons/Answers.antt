use Rattle.std.proofs.Common.{subst, sym}
use Rattle.page_text.specs.Rowless.{IsRowless}
use Rattle.page_text.proofs.RowlessSteps.{reason_rowless, nothing_added, rowless_then}
use Rattle.page_text.proofs.form.add_reasons.Goals as goal

pub loop-reason-init : goal.loop-reason-init
loop-reason-init c = nothing_added c.args.page.now

pub add_option-requires : goal.add_option-requires
add_option-requires c = subst IsRowless (sym c.reason_name.ensures) (reason_rowless _)

pub loop-reason-preserved : goal.loop-reason-preserved
loop-reason-preserved c =
    rowless_then c.args.page.now c.loop-reason.page c.add_option.new.page c.loop-reason.invariant c.add_option.ensures

pub returns : goal.returns
returns c = c.loop-reason.invariant
