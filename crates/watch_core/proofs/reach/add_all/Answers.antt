use Rattle.std.proofs.Common.{Contains, take, get_or, sym, subst, arith}
use Rattle.std.proofs.lemmas.List.{take_more}
use Rattle.state_core.specs.declared.item.Item.{Item}
use Rattle.watch_core.specs.Namers.{AddsWaiting}
use Rattle.watch_core.proofs.Spread.{more}
use Rattle.watch_core.proofs.reach.add_all.Goals as goal

pub loop-item-preserved : goal.loop-item-preserved
loop-item-preserved c =
    let row = c.args.row.now in
    let no_item : Item = record { change = 0; set = 0 } in
    let item = get_or row c.loop-item.item-index no_item in
    subst (λ l. AddsWaiting c.args.state.now (Contains l) c.args.items.now c.args.ahead.now.items c.add_item.new.items c.add_item.new.ahead.items)
    (sym (take_more row c.loop-item.item-index no_item (omega arith)))
    (more c.args.state.now (take c.loop-item.item-index row) item c.args.items.now c.loop-item.items c.add_item.new.items c.args.ahead.now.items c.loop-item.ahead.items c.add_item.new.ahead.items
    c.loop-item.invariant c.in_ok-add_item.ensures)
