-- A watch that bears the window's site and start is of its opening.
use Rattle.std.proofs.Common.{◌∙◌, arith}
use Rattle.std.proofs.lemmas.Bool.Decides.{nat_tests}
use Rattle.site_shared.specs.Watches.{IsOwnWatch}
use Rattle.site_shared.proofs.window.Window.refresh.Goals as goal

pub enter_from-requires : goal.enter_from-requires
enter_from-requires c =
    let own : IsOwnWatch c.args.self.now c.args.watch.now = grind (arith, nat_tests) in
    c.sight.ensures.0 ∙ c.requires own
