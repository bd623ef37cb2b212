use Rattle.std.proofs.Common.{ℕ, List, inl, inr, [], refl, subst, sym}
use Rattle.std.proofs.lemmas.Result.{err_from_is_err_and}
use Rattle.std.specs.Prelude.{option_map}
use Rattle.gate_check.specs.Checked.{IsCheck}
use Rattle.commands.specs.Answers.{IsCheckText, check_as}
use Rattle.commands.proofs.Checking.{ends_cut, ends_printed}
use Rattle.commands.proofs.HowItEnds.{nothing_printed}
use Rattle.commands.proofs.check.print_check.Goals as goal

pub returns-in_default : goal.returns-in_default
returns-in_default g c = inl ([], inr (refl, refl), nothing_printed _)

pub returns-in_err-print : goal.returns-in_err-print
returns-in_err-print g c =
    let p = err_from_is_err_and c.from_residual.result c.from_residual.ensures.1 in
    rw (p.1, p.2)
    (ends_cut (IsCheckText c.args.command.now c.args.rules.now (option_map (λ known. known.now) c.args.state)) _ _ _ c.end_of-ended.result c.in_err-print.field-0.0
    (inl (
      c.in-Ok.checked.warnings,
      subst (λ (text : List ℕ). IsCheck (check_as c.args.command.now.format) c.args.rules.now (option_map (λ known. known.now) c.args.state) text c.in-Ok.checked.warnings) (sym c.as_slice.ensures.value) c.in-Ok.ensures,
      c.end_of-ended.ensures,
    )) c.in_err-print.ensures)

pub returns : goal.returns
returns g c =
    ends_printed (IsCheckText c.args.command.now c.args.rules.now (option_map (λ known. known.now) c.args.state)) _ _ _ c.end_of-ended.result
    (inl (
      c.in-Ok.checked.warnings,
      subst (λ (text : List ℕ). IsCheck (check_as c.args.command.now.format) c.args.rules.now (option_map (λ known. known.now) c.args.state) text c.in-Ok.checked.warnings) (sym c.as_slice.ensures.value) c.in-Ok.ensures,
      c.end_of-ended.ensures,
    )) c.in_ok-print.ensures
