-- What an exit by `?` has to show.
use Rattle.std.specs.Result.{OnErr}
use Rattle.std.proofs.Common.{Result, Ok, Err}

-- what holds anyway holds where an error is returned
pub OnErr-always : {X E P : Type 0} (r : Result X E) → P → OnErr r P
OnErr-always (Ok x) h = tt
OnErr-always (Err e) h = h
