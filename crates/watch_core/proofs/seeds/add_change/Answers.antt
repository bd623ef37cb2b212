use Rattle.std.proofs.Common.{◌≡◌, ◌∙◌, ap, subst, sym}
use Rattle.std.specs.Option.{option_copied}
use Rattle.std.proofs.lemmas.Result.{on_ok_weaker}
use Rattle.watch_core.specs.Seeds.{AddsItems}
use Rattle.watch_core.proofs.Seeding.{adds_change}
use Rattle.watch_core.proofs.seeds.add_change.Goals as goal

pub returns : goal.returns
returns c =
    on_ok_weaker c.add_items.result
    (λ is.
    subst (AddsItems c.args.state.now (λ item. item.change ≡ c.args.number) c.args.seeds.now.items) (sym is)
    (adds_change c.args.state.now c.args.number c.in-Some.change.now c.args.seeds.now.items (sym c.change.ensures ∙ ap option_copied c.in-Some.is)))
    c.add_items.ensures
