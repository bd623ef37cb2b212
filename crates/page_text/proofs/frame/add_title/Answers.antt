use Rattle.std.proofs.Common.{codes, flat_map}
use Rattle.markup_text.specs.Adding.{adds_then2}
use Rattle.markup_text.specs.Pieces.{piece_html}
use Rattle.page_text.proofs.frame.add_title.Goals as goal

pub returns : goal.returns
returns c =
    adds_then2 c.args.page.now c.add.new.self c.add-2.new.self c.add-3.new.self (codes "<title>")
    (flat_map piece_html c.args.title.now) (codes "</title>") c.add.ensures c.add-2.ensures c.add-3.ensures
