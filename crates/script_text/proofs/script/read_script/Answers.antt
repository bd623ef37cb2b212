use Rattle.std.proofs.Common.{Some, sym, subst}
use Rattle.std.specs.Option.{option_copied}
use Rattle.script_text.specs.Script.{SaysSites, SaySteps}
use Rattle.script_text.proofs.Saying.{bad_says_none, speaks, ends_badly, ends_well}
use Rattle.script_text.proofs.script.read_script.Goals as goal

pub returns-in-Err-Bad-clause-says : goal.returns-in-Err-Bad-clause-says
returns-in-Err-Bad-clause-says c =
    speaks (option_copied c.args.gate) c.args.text.now c.new-lines.result c.next_line.new.self c.in-Some.field-0-0 c.in-Some.first.now c.loop-number.script.sites c.loop-number.script.steps.items (Some c.in-Some-next_line.number) c.new-lines.ensures c.in-Some.ensures
    (subst (SaysSites c.in-Some.first.now) (sym c.loop-number.invariant.sites) c.in-Some-read_sites.ensures.found)
    (ends_badly (option_copied c.args.gate) c.next_line.new.self c.loop-number.lines c.next_line-in-loop-number.new.self c.in-Some-next_line.number c.in-Some-next_line.line.now c.loop-number.script.steps.items c.loop-number.invariant.told c.in-Some-next_line.ensures
    (bad_says_none (option_copied c.args.gate) c.in-Some-next_line.line.now c.in-Err-Bad.field-0 c.in-Err-Bad.field-0-is c.in-Err-Bad.ensures.only))

pub returns-clause-says : goal.returns-clause-says
returns-clause-says c =
    speaks (option_copied c.args.gate) c.args.text.now c.new-lines.result c.next_line.new.self c.in-Some.field-0-0 c.in-Some.first.now c.loop-number.script.sites c.loop-number.script.steps.items c.loop-number.script.bad_line c.new-lines.ensures c.in-Some.ensures
    (subst (SaysSites c.in-Some.first.now) (sym c.loop-number.invariant.sites) c.in-Some-read_sites.ensures.found)
    (subst (SaySteps (option_copied c.args.gate) c.next_line.new.self c.loop-number.script.steps.items) (sym c.loop-number.invariant.none)
    (ends_well (option_copied c.args.gate) c.next_line.new.self c.loop-number.lines c.loop-number.script.steps.items c.loop-number.invariant.told c.in_default-next_line.ensures.0))
