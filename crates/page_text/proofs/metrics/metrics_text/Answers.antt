use Rattle.std.proofs.Common.{◌++◌, length}
use Rattle.state_core.specs.State.{state_of}
use Rattle.page_text.specs.Metrics as metrics
use Rattle.markup_text.specs.Adding.{adds_then}
use Rattle.page_text.proofs.Adding.{adds_all}
use Rattle.page_text.proofs.metrics.metrics_text.Goals as goal

pub returns : goal.returns
returns c =
    let replica = c.args.replica.now in
    let starts = c.in_ok-starts.starts in
    let figures = metrics.figures_text c.args.gate.now (state_of replica) (length replica) starts c.args.verdicts.now
    c.args.facts.now in
    let now = metrics.now_text c.args.facts.now in
    let added = adds_all c.new-text.result c.add_now.new.text (figures ++ now) c.in_ok-bytes.bytes.items c.new-text.ensures
    (adds_then c.new-text.result c.add_figures.new.text c.add_now.new.text figures now c.add_figures.ensures
    c.add_now.ensures) c.in_ok-bytes.ensures in
    (starts, c.in_ok-starts.ensures, added)
