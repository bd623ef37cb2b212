use Rattle.std.proofs.Common.{◌∙◌, [], Option, inl, inr, refl, subst}
use Rattle.std.proofs.lemmas.Result.{err_from_is_err_and}
use Rattle.std.specs.Prelude.{option_map}
use Rattle.state_core.specs.State.{State, state_of}
use Rattle.commands.specs.Answers.{IsCheckText}
use Rattle.commands.specs.Ending.{Finishes}
use Rattle.commands.proofs.HowItEnds.{nothing_printed}
use Rattle.commands.proofs.Checking.{checked, gate_refused, record_refused}
use Rattle.commands.proofs.check.check.Goals as goal

pub returns-in_err-rules : goal.returns-in_err-rules
returns-in_err-rules g c =
    let p = err_from_is_err_and c.from_residual.result c.from_residual.ensures.1 in
    rw (p.1, p.2) (inl (gate_refused c.args.command.now.gate c.args.command.now.snapshot _ _ _ c.in_err-rules.ensures.refused))

pub returns-in_err-record : goal.returns-in_err-record
returns-in_err-record g c =
    let p = err_from_is_err_and c.from_residual-in_err-record.result c.from_residual-in_err-record.ensures.1 in
    rw (p.1, p.2)
    (inl (record_refused c.args.command.now.gate c.in_ok-rules.rules c.args.command.now.snapshot _ _ _ _ c.in_ok-rules.ensures.had c.in_err-record.ensures.refused))

pub returns-in_err-state : goal.returns-in_err-state
returns-in_err-state g c =
    let p = err_from_is_err_and c.from_residual-in_err-state.result c.from_residual-in_err-state.ensures.1 in
    rw (p.1, p.2, c.in_err-state.ensures.refused)
    (checked c.args.command.now c.in_ok-rules.rules c.args.command.now.snapshot refl (option_map state_of c.in_ok-record.record) _ _ _ _ _ c.in_ok-rules.ensures.had c.in_ok-record.ensures.had
    (inl ([], inr (refl, refl), nothing_printed _)))

pub returns : goal.returns
returns g c =
    checked c.args.command.now c.in_ok-rules.rules c.args.command.now.snapshot refl (option_map state_of c.in_ok-record.record) _ _ _ _ c.print_check-ended.result c.in_ok-rules.ensures.had c.in_ok-record.ensures.had
    (subst (λ (state : Option State). Finishes (IsCheckText c.args.command.now c.in_ok-rules.rules state) (g.C.Console.state c.read_any_record.new.console) (g.C.Console.state c.print_check-ended.new.console) c.print_check-ended.result) (c.as_ref.ensures.value ∙ c.in_ok-state.ensures.state) c.print_check-ended.ensures)
