use Rattle.std.proofs.Common.{codes}
use Rattle.change_core.specs.Status.{status_name}
use Rattle.page_text.specs.Samples.{labelled}
use Rattle.page_text.proofs.Adding.{adds_of}
use Rattle.page_text.proofs.metrics.add_status.Goals as goal

pub returns : goal.returns
returns c =
    let named = labelled (codes "reviewgate_changes") (codes "status") in
    adds_of c.args.text.now c.add_labelled.new.text (named (status_name c.args.status)) c.status_count-count.ensures
    (adds_of c.args.text.now c.add_labelled.new.text (λ word. named word c.status_count-count.result) c.name.ensures
    c.add_labelled.ensures)
