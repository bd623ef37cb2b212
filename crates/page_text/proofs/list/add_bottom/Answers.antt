use Rattle.std.proofs.Common.{refl}
use Rattle.page_text.specs.Rowless.{begun_in}
use Rattle.std.specs.Prelude.{codes}
use Rattle.page_text.proofs.RowlessSteps.{html_added, rowless_then}
use Rattle.page_text.proofs.list.add_bottom.Goals as goal

pub returns : goal.returns
unfolding begun_in
returns c =
    let begins = html_added (codes "<nav aria-label=\"Pages\">\n") c.args.page.now c.add.new.self refl c.add.ensures in
    let links = rowless_then c.add.new.self c.add_previous.new.page c.add_next.new.page c.add_previous.ensures c.add_next.ensures in
    let ends = html_added (codes "</nav>\n</div>\n") c.add_next.new.page c.add-2.new.self refl c.add-2.ensures in
    rowless_then c.args.page.now c.add_next.new.page c.add-2.new.self
    (rowless_then c.args.page.now c.add.new.self c.add_next.new.page begins links) ends
