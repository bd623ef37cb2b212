use Rattle.std.proofs.Common.{◌↔◌, ℕ, List, Contains, subst}
use Rattle.walk_core.specs.Digraphs.{HasEdge}
use Rattle.walk_core.proofs.digraph.Digraph.namers.Goals as goal

pub returns-clause-row : goal.returns-clause-row
returns-clause-row g c =
    subst (λ (rows : List (List ℕ)). (namer : ℕ) → Contains c.namers.result.now namer ↔ HasEdge rows namer c.args.node)
    c.self.view_is c.namers.ensures.row
