use Rattle.std.proofs.Common.{◌∙◌, codes, flat_map}
use Rattle.markup_text.specs.Adding.{adds_then}
use Rattle.page_text.specs.Metrics as metrics
use Rattle.page_text.specs.Samples as samples
use Rattle.page_text.proofs.Adding.{adds_of}
use Rattle.page_text.proofs.metrics.add_held.Goals as goal

pub returns-in-Ok : goal.returns-in-Ok
returns-in-Ok c =
    let held = metrics.held_text c.args.out.now in
    adds_then c.args.text.now c.add_family.new.text c.add_all_held.new.text
    (samples.family (codes "reviewgate_held_items") (codes "gauge")
    (codes "Items that are held up by an approval, a cycle, an unknown change or a dependency, by reason."))
    (flat_map held (metrics.all_held c.args.gate.now)) c.add_family.ensures
    (adds_of c.add_family.new.text c.add_all_held.new.text (flat_map held) (c.as_slice.ensures.value ∙ c.in-Ok.ensures)
    c.add_all_held.ensures)
