use Rattle.std.proofs.Common.{rules, ℕ, Some, subst, lit<}
use Rattle.std.specs.List.{before_first, after_first}
use Rattle.std.proofs.lemmas.Str.Pattern.{split_once_first}
use Rattle.command_line.specs.Values.{Writes, is_comma}
use Rattle.command_line.proofs.Reading.{no_item_before, no_item_after}
use Rattle.command_line.proofs.numbers.item_of.Goals as goal

pub returns-in_err-change-2 : goal.returns-in_err-change-2
returns-in_err-change-2 c =
    let text = c.args.text.now in
    let parts = split_once_first 44 text (Some (c.in-Some.change, c.in-Some.set)) c.in-Some.ensures.cases (lit< tt) in
    let none : (number : ℕ) → ¬ Writes 0 4294967295 (before_first is_comma text) number = λ number. subst (λ t. ¬ Writes 0 4294967295 t number) parts.1 (c.in_err-change-2.ensures number) in
    search (rules, no_item_before text parts.0 none)

pub returns-in_err-set : goal.returns-in_err-set
returns-in_err-set c =
    let text = c.args.text.now in
    let parts = split_once_first 44 text (Some (c.in-Some.change, c.in-Some.set)) c.in-Some.ensures.cases (lit< tt) in
    let none : (number : ℕ) → ¬ Writes 0 4294967295 (after_first is_comma text) number = λ number. subst (λ t. ¬ Writes 0 4294967295 t number) parts.2 (c.in_err-set.ensures number) in
    search (rules, no_item_after text parts.0 none)
