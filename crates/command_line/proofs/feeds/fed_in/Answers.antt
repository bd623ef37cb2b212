use Rattle.std.proofs.Common.{rules}
use Rattle.command_tree.specs.Rows.{rows_in}
use Rattle.command_line.specs.declared.asked.EventWords.{EventWords}
use Rattle.command_line.specs.Asking.{AreFeedOptions}
use Rattle.command_line.proofs.feeds.fed_in.Goals as goal

pub returns-in_err-to-clause-none : goal.returns-in_err-to-clause-none
returns-in_err-to-clause-none c =
    let none : (words : EventWords) → ¬ AreFeedOptions (rows_in c.args.values.now) words = λ words is. c.in_err-to.ensures words.to is.to in
    search (rules, none)

pub returns-in_err-answer-clause-none : goal.returns-in_err-answer-clause-none
returns-in_err-answer-clause-none c =
    let none : (words : EventWords) → ¬ AreFeedOptions (rows_in c.args.values.now) words = λ words is. c.in_err-answer.ensures words.answer is.answer in
    search (rules, none)
