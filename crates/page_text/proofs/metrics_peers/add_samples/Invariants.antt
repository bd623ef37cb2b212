use Rattle.std.proofs.Common.{flat_map, take}
use Rattle.markup_text.specs.Growing.{Adds}
use Rattle.page_text.specs.Metrics.{figure_text}
use Rattle.page_text.proofs.metrics_peers.add_samples.Given as goal

-- the samples of the peers so far are added
abbrev pub invariant-loop-peer : goal.invariant-loop-peer
invariant-loop-peer l =
    Adds (flat_map (figure_text l.name l.figure) (take l.peer-index l.peers)) l.initial.text l.text
