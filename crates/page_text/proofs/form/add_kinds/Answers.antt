use Rattle.std.proofs.Common.{subst, sym}
use Rattle.page_text.specs.Rowless.{IsRowless}
use Rattle.page_text.proofs.RowlessSteps.{kind_rowless, nothing_added, rowless_then}
use Rattle.page_text.proofs.form.add_kinds.Goals as goal

pub loop-kind-init : goal.loop-kind-init
loop-kind-init c = nothing_added c.args.page.now

pub add_option-requires : goal.add_option-requires
add_option-requires c = subst IsRowless (sym c.shown_name.ensures) (kind_rowless _)

pub loop-kind-preserved : goal.loop-kind-preserved
loop-kind-preserved c =
    rowless_then c.args.page.now c.loop-kind.page c.add_option.new.page c.loop-kind.invariant c.add_option.ensures

pub returns : goal.returns
returns c = c.loop-kind.invariant
