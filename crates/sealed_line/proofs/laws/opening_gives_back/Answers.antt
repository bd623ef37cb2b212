use Rattle.sealed_line.proofs.Seals.{opens_back, opens_sealed}
use Rattle.sealed_line.proofs.laws.opening_gives_back.Goals as goal

pub returns-clause-back : goal.returns-clause-back
returns-clause-back c = opens_back

pub returns-clause-opens : goal.returns-clause-opens
returns-clause-opens c = opens_sealed
