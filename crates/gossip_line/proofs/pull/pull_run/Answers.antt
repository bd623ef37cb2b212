use Rattle.gossip_line.proofs.pull.pull_run.Goals as goal

pub returns : goal.returns
returns g c = c.pull_rounds.ensures
