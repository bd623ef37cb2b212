use Rattle.std.proofs.Common.{codes}
use Rattle.page_text.specs.Samples as samples
use Rattle.markup_text.specs.Adding.{adds_then}
use Rattle.page_text.proofs.metrics_work.add_heard_age.Goals as goal

pub returns : goal.returns
returns c =
    let name = codes "reviewgate_gerrit_heard_age_seconds" in
    adds_then c.args.text.now c.add_family.new.text c.add_milliseconds.new.text
    (samples.family name (codes "gauge") (codes "Seconds since a feed last said that it heard from Gerrit."))
    (samples.milli_sample name c.args.heard_ms) c.add_family.ensures c.add_milliseconds.ensures
