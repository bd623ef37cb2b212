use Rattle.walk_core.proofs.component.Way.steps.Goals as goal

pub returns-in-Back-clause-row : goal.returns-in-Back-clause-row
returns-in-Back-clause-row g c = rw c.in-Back.is c.namers.ensures.row
