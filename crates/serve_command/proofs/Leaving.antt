-- What is given back of a site that has ended.
use Rattle.std.proofs.Common.{◌≡◌, List, Option, Result, Ok, Err, IfSome, subst, sym}
use Rattle.replica_core.specs.Journal.{all_arrived}
use Rattle.review_ops.specs.Operation.{Operation}
use Rattle.site_serve.specs.Openings.{HasKept}
use Rattle.site_serve.specs.declared.setup.ServeFault.{ServeFault}
use Rattle.site_serve.specs.declared.setup.Served.{Served}
use Rattle.serve_command.specs.Leaving.{IsLeftOf, LeavesKept}

-- what the site kept is kept of what is left of it
pub kept_of : {K : Type 0} (survives_by : K → List Operation → Type 0) (had : List Operation → Type 0)
    (begun : List Operation) (keeper : K) (served : Result Served ServeFault) (left : Option (List Operation))
    → IsLeftOf served left → HasKept survives_by had begun keeper served → LeavesKept survives_by had begun keeper left
kept_of survives_by had begun keeper (Ok served) left is kept = λ first h. (
  (kept first h).0,
  (kept first h).1,
  subst (λ some. IfSome some (λ ops. ops ≡ all_arrived begun (kept first h).0)) (sym is) (kept first h).2,
)
kept_of survives_by had begun keeper (Err fault) left is kept = λ first h. (
  (kept first h).0,
  (kept first h).1,
  subst (λ some. IfSome some (λ ops. ops ≡ all_arrived begun (kept first h).0)) (sym is) tt,
)
