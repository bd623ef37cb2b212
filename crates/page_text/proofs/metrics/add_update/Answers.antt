use Rattle.std.proofs.Common.{codes}
use Rattle.page_text.specs.Samples as samples
use Rattle.markup_text.specs.Adding.{adds_then}
use Rattle.page_text.proofs.metrics.add_update.Goals as goal

pub returns : goal.returns
returns c =
    let name = codes "reviewgate_update_duration_seconds" in
    adds_then c.args.text.now c.add_family.new.text c.add_microseconds.new.text
    (samples.family name (codes "gauge") (codes "Seconds that the last update of the verdicts took."))
    (samples.micro_sample name c.args.update_us) c.add_family.ensures c.add_microseconds.ensures
