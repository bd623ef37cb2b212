use Rattle.std.proofs.Common.{codes}
use Rattle.page_text.specs.Samples as samples
use Rattle.markup_text.specs.Adding.{adds_then}
use Rattle.page_text.proofs.metrics_work.add_one_journal.Goals as goal

pub returns : goal.returns
returns c =
    adds_then c.args.text.now c.add_gauge.new.text c.add_counter.new.text
    (samples.gauge (codes "reviewgate_journal_bytes") (codes "Bytes of the journal.") c.args.bytes)
    (samples.counter (codes "reviewgate_journal_syncs_total") (codes "Syncs of the journal since the start.")
    c.args.syncs)
    c.add_gauge.ensures c.add_counter.ensures
