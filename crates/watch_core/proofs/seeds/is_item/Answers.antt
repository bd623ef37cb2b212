use Rattle.std.proofs.Common.{◌∙◌, ap, sym}
use Rattle.std.specs.Option.{option_copied}
use Rattle.watch_core.proofs.Seeding.{is_there}
use Rattle.watch_core.proofs.seeds.is_item.Goals as goal

pub returns-in-Some : goal.returns-in-Some
returns-in-Some c =
    is_there c.args.state.now c.args.item c.in-Some.change.now
    (sym c.change.ensures ∙ ap option_copied c.in-Some.is) c.has_set.result c.has_set.ensures
