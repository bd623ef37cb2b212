use Rattle.std.proofs.Common.{rules}
use Rattle.command_tree.specs.Rows.{rows_in}
use Rattle.command_line.specs.declared.asked.ServeWords.{ServeWords}
use Rattle.command_line.specs.Asking.{AreOptions}
use Rattle.command_line.proofs.sites.serving_in.Goals as goal

pub returns-in_err-short_in-clause-none : goal.returns-in_err-short_in-clause-none
returns-in_err-short_in-clause-none c =
    let none : (words : ServeWords) → ¬ AreOptions (rows_in c.args.values.now) words = λ words is. c.in_err-short_in.ensures words.site is.site in
    search (rules, none)

pub returns-in_err-number_in-clause-none : goal.returns-in_err-number_in-clause-none
returns-in_err-number_in-clause-none c =
    let none : (words : ServeWords) → ¬ AreOptions (rows_in c.args.values.now) words = λ words is. c.in_err-number_in.ensures.found words.workers is.workers in
    search (rules, none)

pub returns-in_err-number_in-2-clause-none : goal.returns-in_err-number_in-2-clause-none
returns-in_err-number_in-2-clause-none c =
    let none : (words : ServeWords) → ¬ AreOptions (rows_in c.args.values.now) words = λ words is. c.in_err-number_in-2.ensures.found words.pause_ms is.pause in
    search (rules, none)

pub returns-in_err-number_in-3-clause-none : goal.returns-in_err-number_in-3-clause-none
returns-in_err-number_in-3-clause-none c =
    let none : (words : ServeWords) → ¬ AreOptions (rows_in c.args.values.now) words = λ words is. c.in_err-number_in-3.ensures.found words.sessions is.sessions in
    search (rules, none)

pub returns-in_err-number_in-4-clause-none : goal.returns-in_err-number_in-4-clause-none
returns-in_err-number_in-4-clause-none c =
    let none : (words : ServeWords) → ¬ AreOptions (rows_in c.args.values.now) words = λ words is. c.in_err-number_in-4.ensures.found words.idle_ms is.idle in
    search (rules, none)

pub returns-in_err-number_in-5-clause-none : goal.returns-in_err-number_in-5-clause-none
returns-in_err-number_in-5-clause-none c =
    let none : (words : ServeWords) → ¬ AreOptions (rows_in c.args.values.now) words = λ words is. c.in_err-number_in-5.ensures.found words.connections is.connections in
    search (rules, none)
