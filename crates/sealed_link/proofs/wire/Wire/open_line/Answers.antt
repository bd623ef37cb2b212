use Rattle.sealed_link.proofs.wire.Wire.open_line.Goals as goal

pub returns-in-Ok-clause-err : goal.returns-in-Ok-clause-err
returns-in-Ok-clause-err c = rw c.in-Ok.ensures.ok at c.open_held.ensures.err
