use Rattle.page_text.proofs.RowlessSteps.{piece_added}
use Rattle.page_text.proofs.template.add_piece.Goals as goal

pub returns : goal.returns
returns c = λ rowless.
    piece_added c.escaped_texts_have_no_markup.ensures c.args.piece c.args.page.now c.add.new.self rowless c.add.ensures
