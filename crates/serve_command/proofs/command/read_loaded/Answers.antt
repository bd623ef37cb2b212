use Rattle.std.proofs.lemmas.Result.{err_from_is_err_and}
use Rattle.serve_command.proofs.Reading.{memory_refused, snapshot_refused}
use Rattle.serve_command.proofs.command.read_loaded.Goals as goal

pub returns-in_err-gathering-clause-refused : goal.returns-in_err-gathering-clause-refused
returns-in_err-gathering-clause-refused g c =
    let p = err_from_is_err_and c.from_residual.result c.from_residual.ensures.1 in
    rw (p.1, p.2, c.in-Some.is) (snapshot_refused c.in-Some.name.now _ _ _ c.in_err-gathering.ensures.refused)

pub returns-in_err-replica-clause-refused : goal.returns-in_err-replica-clause-refused
returns-in_err-replica-clause-refused g c =
    let p = err_from_is_err_and c.from_residual-in_err-replica.result c.from_residual-in_err-replica.ensures.1 in
    let had = c.in_ok-gathering.ensures.had in
    rw (p.1, p.2, c.in-Some.is, c.in_err-replica.ensures.refused)
    (memory_refused c.in-Some.name.now had.0 _ _ had.2)
