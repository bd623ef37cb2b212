use Rattle.std.proofs.Common.{◌++◌, codes, flat_map, refl}
use Rattle.std.specs.Prelude.{decimal}
use Rattle.markup_text.specs.Pieces.{piece_html}
use Rattle.page_text.specs.Rowless.{begun_in}
use Rattle.page_text.specs.declared.frame.TheConstants.{AFTER_TITLE, BEFORE_TITLE}
use Rattle.page_text.proofs.RowlessSteps.{begun_then, begun_with, decimal_rowless, html_added, rowless_append}
use Rattle.page_text.proofs.WaitingSteps.{titled, untitled}
use Rattle.page_text.proofs.frame.begin.Goals as goal

pub returns-clause-titled : goal.returns-clause-titled
returns-clause-titled c =
    titled (flat_map piece_html c.args.title.now) _ c.add.new.self c.add_title.new.page c.add-2.new.self
    (untitled BEFORE_TITLE.now c.new-page.result c.add.new.self c.new-page.ensures refl c.add.ensures)
    c.add_title.ensures c.add-2.ensures

pub returns-clause-rowless : goal.returns-clause-rowless
unfolding begun_in
returns-clause-rowless c = λ rowless.
    let title = flat_map piece_html c.args.title.now in
    let first = begun_with c.new-page.result BEFORE_TITLE.now c.new-page.ensures refl c.add.new.self c.add.ensures in
    let named = html_added (codes "<title>" ++ title ++ codes "</title>") c.add.new.self c.add_title.new.page
    (rowless_append (codes "<title>" ++ title) (codes "</title>") (rowless_append (codes "<title>") title refl rowless) refl)
    c.add_title.ensures in
    let ends = codes "</p></header>\n<main>\n" in
    let last = html_added (AFTER_TITLE.now ++ (decimal c.from.result ++ ends)) c.add_title.new.page c.add-2.new.self
    (rowless_append AFTER_TITLE.now (decimal c.from.result ++ ends) refl
    (rowless_append (decimal c.from.result) ends (decimal_rowless c.from.result) refl)) c.add-2.ensures in
    begun_then c.add_title.new.page c.add-2.new.self (begun_then c.add.new.self c.add_title.new.page first named) last
