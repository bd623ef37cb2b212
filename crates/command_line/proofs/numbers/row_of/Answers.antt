use Rattle.std.proofs.Common.{rules, ℕ, Some, subst, lit<}
use Rattle.std.specs.List.{before_first}
use Rattle.std.proofs.lemmas.Str.Pattern.{split_once_first}
use Rattle.command_line.specs.Values.{Writes, is_comma}
use Rattle.command_line.proofs.Reading.{no_row_before}
use Rattle.command_line.proofs.numbers.row_of.Goals as goal

pub returns-in_err-site-2 : goal.returns-in_err-site-2
returns-in_err-site-2 c =
    let text = c.args.text.now in
    let parts = split_once_first 44 text (Some (c.in_ok-site.site, c.in_ok-site.start)) c.in_ok-site.ensures.cases (lit< tt) in
    let none : (number : ℕ) → ¬ Writes 0 65535 (before_first is_comma text) number = λ number. subst (λ t. ¬ Writes 0 65535 t number) parts.1 (c.in_err-site-2.ensures.found number) in
    search (rules, no_row_before text none)
