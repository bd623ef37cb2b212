use Rattle.std.proofs.Common.{refl}
use Rattle.page_text.specs.Rowless.{begun_in}
use Rattle.page_text.specs.declared.form.TheConstants.{LAST, REASONS_BEGIN}
use Rattle.page_text.proofs.RowlessSteps.{html_added, one_piece, rowless_then}
use Rattle.page_text.proofs.form.add_form.Goals as goal

pub returns : goal.returns
unfolding begun_in
returns c =
    let first = c.fill.ensures refl (one_piece _ tt) in
    let kinds = rowless_then c.args.page.now c.fill.new.page c.add_kinds.new.page first c.add_kinds.ensures in
    let between = html_added REASONS_BEGIN.now c.add_kinds.new.page c.add.new.self refl c.add.ensures in
    let reasons = rowless_then c.add_kinds.new.page c.add.new.self c.add_reasons.new.page between c.add_reasons.ensures in
    let last = html_added LAST.now c.add_reasons.new.page c.add-2.new.self refl c.add-2.ensures in
    rowless_then c.args.page.now c.add_kinds.new.page c.add-2.new.self kinds
    (rowless_then c.add_kinds.new.page c.add_reasons.new.page c.add-2.new.self reasons last)
