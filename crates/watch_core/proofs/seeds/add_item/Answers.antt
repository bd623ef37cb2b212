use Rattle.std.proofs.Common.{◌≡◌, subst, sym, ◌∙◌}
use Rattle.std.proofs.lemmas.Bool.{false≢true}
use Rattle.state_core.specs.Items.{IsItem}
use Rattle.watch_core.specs.Seeds.{AddsItems}
use Rattle.watch_core.proofs.Seeding.{adds_none, adds_one}
use Rattle.watch_core.proofs.seeds.add_item.Goals as goal

pub returns-then-not-is_item : goal.returns-then-not-is_item
returns-then-not-is_item c =
    adds_none c.args.state.now (λ other. other ≡ c.args.item) (λ other. ⊥) c.args.seeds.now.items
    (λ other is same. false≢true (sym c.if-not-is_item.true ∙ c.is_item.ensures.1 (subst (IsItem c.args.state.now) same is)))

pub returns : goal.returns
returns c =
    subst (AddsItems c.args.state.now (λ other. other ≡ c.args.item) c.args.seeds.now.items)
    (sym c.in_ok-push.ensures.items)
    (adds_one c.args.state.now c.args.item c.args.seeds.now.items (c.is_item.ensures.0 c.if-not-is_item.false))
