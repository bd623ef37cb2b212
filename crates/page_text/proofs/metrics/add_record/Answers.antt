use Rattle.std.proofs.Common.{codes, length}
use Rattle.state_core.specs.State.{state_of}
use Rattle.page_text.specs.Metrics.{status_counts_text}
use Rattle.page_text.specs.Samples.{gauge}
use Rattle.page_text.proofs.Adding.{adds_of, adds_then3}
use Rattle.page_text.proofs.metrics.add_record.Goals as goal

pub returns : goal.returns
returns c =
    let old = c.args.text.now in
    let counted = c.add_gauge.new.text in
    let begun = c.add_gauge-2.new.text in
    let listed = c.add_changes.new.text in
    let new = c.add_gauge-3.new.text in
    let operations = gauge (codes "reviewgate_operations") (codes "Operations of the record.") in
    let ready = gauge (codes "reviewgate_ready_items") (codes "Items that may enter the pipeline.") in
    let starts = gauge (codes "reviewgate_starts") (codes "Starts of sites that a pull into the record names.") in
    adds_then3 old counted begun listed new (operations (length c.args.replica.now)) (starts c.args.starts)
    (status_counts_text (state_of c.args.replica.now)) (ready (length c.args.verdicts.now.ready))
    (adds_of old counted operations c.len.ensures c.add_gauge.ensures) c.add_gauge-2.ensures
    (adds_of begun listed status_counts_text c.state.ensures c.add_changes.ensures)
    (adds_of listed new (λ items. ready (length items)) c.ready.ensures c.add_gauge-3.ensures)
