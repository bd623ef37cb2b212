use Rattle.std.proofs.Common.{rules}
use Rattle.std.proofs.lemmas.List.Elements.{All-get_or}
use Rattle.page_text.specs.Rowless.{IsRowlessPiece}
use Rattle.page_text.proofs.RowlessSteps.{markup_added, nothing_added, rowless_then}
use Rattle.page_text.proofs.template.fill.Goals as goal

pub loop-piece-init : goal.loop-piece-init
loop-piece-init c = record { rowless = λ template pieces. (nothing_added c.args.page.now, template); text = search rules }

pub loop-piece-preserved : goal.loop-piece-preserved
loop-piece-preserved c = record {
  rowless = λ template pieces.
      let so_far = c.loop-piece.invariant.rowless template pieces in
      let place = c.add_to_place-rest.ensures so_far.1 in
      let piece = c.add_piece.ensures (All-get_or IsRowlessPiece c.args.pieces.now c.loop-piece.piece-index _ c.loop-piece-test.true pieces) in (
        rowless_then c.args.page.now c.add_to_place-rest.new.page c.add_piece.new.page
            (rowless_then c.args.page.now c.loop-piece.page c.add_to_place-rest.new.page so_far.0 place.0) piece,
        place.1,
      );
  text = search rules;
}

pub returns : goal.returns
returns c = λ template pieces.
    let so_far = c.loop-piece.invariant.rowless template pieces in
    rowless_then c.args.page.now c.loop-piece.page c.add.new.self so_far.0
    (markup_added c.loop-piece.rest.now c.loop-piece.page c.add.new.self so_far.1 c.add.ensures)
