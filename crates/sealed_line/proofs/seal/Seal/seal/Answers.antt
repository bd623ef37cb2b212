use Rattle.std.proofs.Common.{arith}
use Rattle.sealed_line.proofs.Seals.{opens_sealed}
use Rattle.sealed_line.proofs.seal.Seal.seal.Goals as goal

pub returns-clause-opens : goal.returns-clause-opens
returns-clause-opens g c = opens_sealed c.args.self.now c.args.text.now (λ i. let fits = c.type_inv.text i in omega arith)
