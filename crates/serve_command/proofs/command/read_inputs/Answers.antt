use Rattle.std.proofs.lemmas.Result.{err_from_is_err_and}
use Rattle.std.specs.Prelude.{option_map}
use Rattle.serve_command.proofs.Reading.{gate_refused, load_refused}
use Rattle.serve_command.proofs.command.read_inputs.Goals as goal

pub returns-in_err-rules-clause-refused : goal.returns-in_err-rules-clause-refused
returns-in_err-rules-clause-refused g c =
    let p = err_from_is_err_and c.from_residual.result c.from_residual.ensures.1 in
    rw (p.1, p.2)
    (gate_refused c.args.gate.now (option_map (λ name. name.now) c.args.load) _ _ _ c.in_err-rules.ensures.refused)

pub returns-in_err-replica-clause-refused : goal.returns-in_err-replica-clause-refused
returns-in_err-replica-clause-refused g c =
    let p = err_from_is_err_and c.from_residual-in_err-replica.result c.from_residual-in_err-replica.ensures.1 in
    rw (p.1, p.2)
    (load_refused c.args.gate.now c.in_ok-rules.rules (option_map (λ name. name.now) c.args.load) _ _ _ _ c.in_ok-rules.ensures.had c.in_err-replica.ensures.refused)
