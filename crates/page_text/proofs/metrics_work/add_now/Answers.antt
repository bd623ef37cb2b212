use Rattle.page_text.specs.Metrics as metrics
use Rattle.markup_text.specs.Adding.{adds_then2}
use Rattle.page_text.proofs.metrics_work.add_now.Goals as goal

pub returns : goal.returns
returns c =
    let facts = c.args.facts.now in
    adds_then2 c.args.text.now c.add_work.new.text c.add_journal.new.text
    c.add_heard.new.text
    (metrics.work_text facts.workers facts.busy_workers facts.session_faults facts.refused_connections)
    (metrics.journal_figures facts.journal) (metrics.heard_text facts.heard_ms)
    c.add_work.ensures c.add_journal.ensures c.add_heard.ensures
