use Rattle.std.proofs.Common.{codes}
use Rattle.page_text.specs.Metrics as metrics
use Rattle.page_text.specs.Samples as samples
use Rattle.markup_text.specs.Adding.{adds_then}
use Rattle.page_text.proofs.metrics.add_info.Goals as goal

pub returns : goal.returns
returns c =
    let name = codes "reviewgate_site_info" in
    adds_then c.args.text.now c.add_family.new.text c.add_labels.new.text
    (samples.family name (codes "gauge") (codes "The site and its start."))
    (metrics.labels_text name c.args.site c.args.start) c.add_family.ensures c.add_labels.ensures
