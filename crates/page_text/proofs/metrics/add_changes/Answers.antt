use Rattle.std.proofs.Common.{codes}
use Rattle.change_core.specs.declared.life.Status.TheVariants.{New, Abandoned, Merged}
use Rattle.page_text.specs.Metrics.{status_text}
use Rattle.page_text.specs.Samples.{family}
use Rattle.page_text.proofs.Adding.{adds_then3}
use Rattle.page_text.proofs.metrics.add_changes.Goals as goal

pub returns : goal.returns
returns c =
    let state = c.args.state.now in
    adds_then3 c.args.text.now c.add_family.new.text c.add_status.new.text
    c.add_status-2.new.text c.add_status-3.new.text
    (family (codes "reviewgate_changes") (codes "gauge") (codes "Changes of the record by status."))
    (status_text state New) (status_text state Abandoned) (status_text state Merged)
    c.add_family.ensures c.add_status.ensures c.add_status-2.ensures c.add_status-3.ensures
