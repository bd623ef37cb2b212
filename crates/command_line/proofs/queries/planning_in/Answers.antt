use Rattle.std.proofs.Common.{rules}
use Rattle.command_tree.specs.Rows.{rows_in}
use Rattle.command_line.specs.declared.asked.QueryWords.{QueryWords}
use Rattle.command_line.specs.Asking.{IsPlanning}
use Rattle.command_line.proofs.queries.planning_in.Goals as goal

pub returns-in_err-number_in : goal.returns-in_err-number_in
returns-in_err-number_in c =
    let none : (words : QueryWords) → ¬ IsPlanning (rows_in c.args.values.now) words = λ words is. c.in_err-number_in.ensures.found words.every is.every in
    search (rules, none)

pub returns-in_err-number_in-2 : goal.returns-in_err-number_in-2
returns-in_err-number_in-2 c =
    let none : (words : QueryWords) → ¬ IsPlanning (rows_in c.args.values.now) words = λ words is. c.in_err-number_in-2.ensures.found words.gather is.gather in
    search (rules, none)

pub returns-in_err-number_in-3 : goal.returns-in_err-number_in-3
returns-in_err-number_in-3 c =
    let none : (words : QueryWords) → ¬ IsPlanning (rows_in c.args.values.now) words = λ words is. c.in_err-number_in-3.ensures.found words.pause is.pause in
    search (rules, none)
