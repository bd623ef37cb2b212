use Rattle.std.proofs.Common.{codes}
use Rattle.page_text.specs.Metrics as metrics
use Rattle.page_text.specs.Samples as samples
use Rattle.markup_text.specs.Adding.{adds_then2}
use Rattle.page_text.proofs.metrics.add_site.Goals as goal

pub returns : goal.returns
returns c =
    let facts = c.args.facts.now in
    adds_then2 c.args.text.now c.add_info.new.text c.add_family.new.text
    c.add_age.new.text
    (metrics.info_text facts.site facts.start)
    (samples.family (codes "reviewgate_last_operation_age_seconds") (codes "gauge")
    (codes "Seconds since the last operation came."))
    (metrics.age_text (codes "reviewgate_last_operation_age_seconds") facts.news_ms)
    c.add_info.ensures c.add_family.ensures c.add_age.ensures
