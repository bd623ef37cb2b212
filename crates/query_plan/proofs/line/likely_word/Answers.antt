use Rattle.query_plan.proofs.Texts.{IsCut, word_pieces}
use Rattle.query_plan.proofs.line.likely_word.Goals as goal

pub returns : goal.returns
returns c = λ word fits is.
    let cuts : IsCut c.args.text.now c.first_and_rest.result.0.now c.first_and_rest.result.1.now =
    record { cut = c.first_and_rest.ensures.cut; whole = c.first_and_rest.ensures.whole } in
    let parts = word_pieces word _ _ _ cuts is in
    c.word_of.ensures word fits parts.0 parts.1
