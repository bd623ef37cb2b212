use Rattle.std.proofs.Common.{◌∙◌}
use Rattle.walk_core.proofs.Blocks.{counts_block, counts_elsewhere, taken_bare}
use Rattle.walk_core.proofs.Gathering.{firsts_within}
use Rattle.walk_core.proofs.counts.count_block.Goals as goal

pub mark_block-requires-clause-targets : goal.mark_block-requires-clause-targets
mark_block-requires-clause-targets g c = λ target here. c.requires.nodes.within target (c.requires.targets target here)

pub take_counts-requires-clause-nodes : goal.take_counts-requires-clause-nodes
take_counts-requires-clause-nodes g c = rw c.requires.firsts.size c.requires.nodes.within

pub take_counts-requires-clause-firsts : goal.take_counts-requires-clause-firsts
take_counts-requires-clause-firsts g c =
    rw (c.pass_all.ensures.size, c.mark_block.ensures.rows) (firsts_within c.requires.firsts c.requires.nodes)

pub returns-clause-bare : goal.returns-clause-bare
returns-clause-bare g c = taken_bare c.args.graph.now c.args.firsts.now c.args.nodes.now c.args.block.now _ _ _ _ _ c.requires.firsts c.requires.nodes c.requires.few
    c.mark_block.ensures.marked c.pass_all.ensures
    (c.pass_all.ensures.size ∙ c.mark_block.ensures.rows) c.take_counts.ensures c.requires.targets

pub returns-clause-each : goal.returns-clause-each
returns-clause-each g c = counts_block c.args.graph.now c.args.firsts.now c.args.nodes.now c.args.block.now _ _ _ _ _ c.requires.firsts c.requires.nodes c.requires.few
    c.mark_block.ensures.marked c.pass_all.ensures
    (c.pass_all.ensures.size ∙ c.mark_block.ensures.rows) c.take_counts.ensures

pub returns-clause-elsewhere : goal.returns-clause-elsewhere
returns-clause-elsewhere g c = counts_elsewhere c.args.graph.now c.args.firsts.now c.args.nodes.now c.args.block.now _ _ _ _ _ c.requires.firsts c.requires.nodes c.requires.few
    c.mark_block.ensures.marked c.pass_all.ensures
    (c.pass_all.ensures.size ∙ c.mark_block.ensures.rows) c.take_counts.ensures
