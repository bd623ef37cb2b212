use Rattle.std.proofs.Common.{Contains, [], ◌∷◌, sym, subst, inr}
use Rattle.std.proofs.lemmas.Bool.{false≢true}
use Rattle.std.proofs.lemmas.List.Elements.{Contains-append_left, Contains-push}
use Rattle.watch_core.proofs.Spread.{one_more}
use Rattle.watch_core.proofs.reach.add_item.Goals as goal

pub returns-then-not-is_current : goal.returns-then-not-is_current
returns-then-not-is_current c =
    one_more c.args.state.now c.args.item c.args.items.now c.insert.new.self c.args.ahead.now.items c.args.ahead.now.items c.in_ok-insert.ensures.updates.0 c.in_ok-insert.ensures.updates.1
    (λ number here. here) (λ current. absurd (false≢true (c.if-not-is_current.ensures current)))

pub returns : goal.returns
returns c =
    one_more c.args.state.now c.args.item c.args.items.now c.insert.new.self c.args.ahead.now.items c.push.new.self.items c.in_ok-insert.ensures.updates.0 c.in_ok-insert.ensures.updates.1
    (λ number here. subst (λ l. Contains l number) (sym c.in_ok-push.ensures.items) (Contains-append_left c.args.ahead.now.items (c.args.item.change ∷ []) number here))
    (λ current. inr (subst (λ l. Contains l c.args.item.change) (sym c.in_ok-push.ensures.items) (Contains-push c.args.ahead.now.items c.args.item.change)))
