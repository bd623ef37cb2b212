use Rattle.std.proofs.Common.{◌∙◌, codes}
use Rattle.page_text.specs.Held.{held_words}
use Rattle.page_text.specs.Samples.{labelled}
use Rattle.page_text.proofs.Adding.{adds_of}
use Rattle.page_text.proofs.metrics.add_held_by.Goals as goal

pub returns-in-Ok : goal.returns-in-Ok
returns-in-Ok c =
    let new = c.add_labelled.new.text in
    let named = labelled (codes "reviewgate_held_items") (codes "reason") in
    adds_of c.args.text.now new (named (held_words c.args.held)) c.count_of.ensures
    (adds_of c.args.text.now new (λ words. named words c.count_of.result) (c.as_str.ensures.value ∙ c.in-Ok.ensures)
    c.add_labelled.ensures)
