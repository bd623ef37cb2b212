use Rattle.std.specs.Option.{option_copied}
use Rattle.page_routes.proofs.Tables.{list_found, items_found, plain_found}
use Rattle.page_routes.proofs.asked.route_of.Goals as goal

pub returns-then-is_text : goal.returns-then-is_text
returns-then-is_text c =
    let query = option_copied c.args.query in
    rw c.listed.ensures (list_found c.args.path.now query (c.is_text.ensures.0 c.if-is_text.true) _ c.in_ok-choice_of.ensures)

pub returns-then-is_text-2 : goal.returns-then-is_text-2
returns-then-is_text-2 c =
    let query = option_copied c.args.query in
    rw c.items.ensures (items_found c.args.path.now query (c.is_text-2.ensures.0 c.if-is_text-2.true) _ c.in_ok-choice_of-2.ensures)

pub returns : goal.returns
returns c =
    let query = option_copied c.args.query in
    plain_found c.args.path.now query (λ is. let yes = c.is_text.ensures.1 is in cc)
    (λ is. let yes = c.is_text-2.ensures.1 is in cc) c.in_default.ensures c.in_default-after.ensures _ c.plain_route.ensures
