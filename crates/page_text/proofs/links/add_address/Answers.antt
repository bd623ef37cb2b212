use Rattle.std.proofs.Common.{refl, subst, sym}
use Rattle.page_text.specs.Rowless.{IsRowless, begun_in}
use Rattle.page_text.proofs.RowlessSteps.{kind_rowless, rowless_then, two_pieces}
use Rattle.page_text.proofs.links.add_address.Goals as goal

pub returns : goal.returns
unfolding begun_in
returns c =
    let kind = subst IsRowless (sym c.shown_name.ensures) (kind_rowless c.args.choice.now.shown) in
    let first = c.fill.ensures refl (two_pieces _ _ kind tt) in
    rowless_then c.args.page.now c.fill.new.page c.add_words.new.page first
    (rowless_then c.fill.new.page c.add_reason.new.page c.add_words.new.page c.add_reason.ensures c.add_words.ensures)
