use Rattle.std.proofs.Common.{rules, None, Some, lit<}
use Rattle.std.proofs.lemmas.Str.Pattern.{split_once_first}
use Rattle.page_routes.proofs.Places.{no_place, no_place_before, no_place_after}
use Rattle.page_routes.proofs.asked.place_of.Goals as goal

pub returns-in_err-change : goal.returns-in_err-change
returns-in_err-change c =
    let text = c.args.text.now in
    let none = split_once_first 44 text None c.in_default.ensures.cases (lit< tt) in
    search (rules, no_place text none c.in_err-change.ensures)

pub returns-in_err-change-2 : goal.returns-in_err-change-2
returns-in_err-change-2 c =
    let text = c.args.text.now in
    let parts = split_once_first 44 text (Some (c.in-Some.change, c.in-Some.set)) c.in-Some.ensures.cases (lit< tt) in
    search (rules, no_place_before text c.in-Some.change.now parts.0 parts.1 c.in_err-change-2.ensures)

pub returns-in_err-set : goal.returns-in_err-set
returns-in_err-set c =
    let text = c.args.text.now in
    let parts = split_once_first 44 text (Some (c.in-Some.change, c.in-Some.set)) c.in-Some.ensures.cases (lit< tt) in
    search (rules, no_place_after text c.in-Some.set.now parts.0 parts.2 c.in_err-set.ensures)
