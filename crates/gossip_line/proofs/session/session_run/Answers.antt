use Rattle.gossip_line.proofs.session.session_run.Goals as goal

pub returns : goal.returns
returns g c = c.answer_lines.ensures
