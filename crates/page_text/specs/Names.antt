-- The values of the query parameters of a list. They are the project's own.
use Rattle.std.specs.Prelude.{ℕ, List, codes}
use Rattle.page_routes.specs.declared.route.Reason.{Reason}
use Rattle.page_routes.specs.declared.route.Reason.TheVariants.{Require, Reject, Cycle, Unknown, Dependency}
use Rattle.page_routes.specs.declared.route.Shown.{Shown}
use Rattle.page_routes.specs.declared.route.Shown.TheVariants.{All, Open, Ready}

abbrev pub reason_name : Reason → List ℕ
reason_name Require = codes "require"
reason_name Reject = codes "reject"
reason_name Cycle = codes "cycle"
reason_name Unknown = codes "unknown"
reason_name Dependency = codes "dependency"

abbrev pub shown_name : Shown → List ℕ
shown_name Open = codes "open"
shown_name Ready = codes "ready"
shown_name All = codes "all"
