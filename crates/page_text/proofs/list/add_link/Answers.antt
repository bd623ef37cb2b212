use Rattle.std.proofs.Common.{refl}
use Rattle.page_text.specs.Rowless.{begun_in}
use Rattle.std.specs.Prelude.{codes}
use Rattle.page_text.proofs.RowlessSteps.{html_added, one_piece, rowless_then}
use Rattle.page_text.proofs.list.add_link.Goals as goal

pub returns : goal.returns
unfolding begun_in
returns c =
    let begins = html_added (codes "<a href=\"") c.args.page.now c.add.new.self refl c.add.ensures in
    let ends = c.fill.ensures refl (one_piece _ c.requires) in
    rowless_then c.args.page.now c.add_address.new.page c.fill.new.page
    (rowless_then c.args.page.now c.add.new.self c.add_address.new.page begins c.add_address.ensures) ends
