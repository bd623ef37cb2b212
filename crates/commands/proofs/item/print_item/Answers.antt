use Rattle.std.proofs.Common.{inl, [], subst, sym}
use Rattle.std.proofs.lemmas.Result.{err_from_is_err_and}
use Rattle.commands.specs.Answers.{IsItemPrinted, IsStanding}
use Rattle.commands.proofs.Checking.{ends_cut, ends_printed}
use Rattle.commands.proofs.HowItEnds.{nothing_printed}
use Rattle.commands.proofs.ItemEnds.{none_ends, standing_ends}
use Rattle.commands.proofs.item.print_item.Goals as goal

pub returns-in-Err : goal.returns-in-Err
returns-in-Err g c =
    inl ([], none_ends c.args.command.now c.args.rules.now c.args.state.now c.in-Err.refusal c.in-Err.ensures.refused, nothing_printed _)

pub returns-in_err-print : goal.returns-in_err-print
returns-in_err-print g c =
    let p = err_from_is_err_and c.from_residual.result c.from_residual.ensures.1 in
    let standing = c.in-Ok.standing in
    let text = c.as_slice.ensures.value in
    rw (p.1, p.2)
    (ends_cut (IsItemPrinted c.args.command.now c.args.rules.now c.args.state.now) c.as_slice.result.now _ _ c.end_of-ended.result c.in_err-print.field-0.0
    (standing_ends c.args.command.now c.args.rules.now c.args.state.now c.as_slice.result.now standing.is_ready c.end_of-ended.result
    (subst (IsStanding c.args.command.now standing.is_ready c.args.rules.now c.args.state.now) (sym text) c.in-Ok.ensures.standing) c.end_of-ended.ensures) c.in_err-print.ensures)

pub returns : goal.returns
returns g c =
    let standing = c.in-Ok.standing in
    let text = c.as_slice.ensures.value in
    ends_printed (IsItemPrinted c.args.command.now c.args.rules.now c.args.state.now) c.as_slice.result.now _ _ c.end_of-ended.result
    (standing_ends c.args.command.now c.args.rules.now c.args.state.now c.as_slice.result.now standing.is_ready c.end_of-ended.result
    (subst (IsStanding c.args.command.now standing.is_ready c.args.rules.now c.args.state.now) (sym text) c.in-Ok.ensures.standing) c.end_of-ended.ensures) c.in_ok-print.ensures
