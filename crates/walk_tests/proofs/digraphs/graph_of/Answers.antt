use Rattle.std.proofs.Common.{◌≡◌, ℕ, Vec, map, sym, subst}
use Rattle.std.proofs.lemmas.Result.{IfOk-weaker}
use Rattle.walk_core.specs.Digraphs.{IsWithin}
use Rattle.walk_tests.proofs.digraphs.graph_of.Goals as goal

pub returns-clause-within : goal.returns-clause-within
returns-clause-within g c =
    let items = λ (row : Vec ℕ g.row.A.Denot). row.items in
    IfOk-weaker c.new.result (λ graph. graph ≡ map items c.loop-from.rows.items) IsWithin
    (λ graph is. subst IsWithin (sym is) c.loop-from.invariant.1) c.new.ensures
