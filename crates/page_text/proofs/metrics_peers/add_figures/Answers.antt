use Rattle.std.proofs.Common.{flat_map}
use Rattle.markup_text.specs.Adding.{adds_then}
use Rattle.page_text.specs.Metrics.{figure_text}
use Rattle.page_text.specs.Samples.{family}
use Rattle.page_text.proofs.metrics_peers.add_figures.Goals as goal

pub returns : goal.returns
returns c =
    let name = c.args.name.now in
    adds_then c.args.text.now c.add_family.new.text c.add_samples.new.text (family name c.args.kind.now c.args.help.now)
    (flat_map (figure_text name c.args.figure) c.args.peers.now) c.add_family.ensures c.add_samples.ensures
