use Rattle.std.proofs.Common.{◌≡◌}
use Rattle.world_core.specs.Numbered.{numbered}
use Rattle.script_play.specs.Playing.{ShowsFront, bytes_of, no_site}
use Rattle.script_play.proofs.Sending.{at_site}
use Rattle.script_play.proofs.play.front_at.Goals as goal

pub returns-in-Some : goal.returns-in-Some
returns-in-Some c =
    let text = bytes_of c.front_line.result in
    at_site (λ journal. ShowsFront journal text) (text ≡ no_site)
    (numbered c.args.world.now.sites c.args.site) c.in-Some.replica.now c.in-Some.ensures c.front_line.ensures
