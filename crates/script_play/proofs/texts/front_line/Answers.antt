use Rattle.std.proofs.Common.{ap, ◌∙◌, inl}
use Rattle.std.specs.Prelude.{Vec}
use Rattle.script_play.proofs.texts.front_line.Goals as goal

pub returns-in-Ok : goal.returns-in-Ok
returns-in-Ok c =
    let written = c.in-Ok.ensures in
    inl (written.0, written.1, ap (λ bytes. bytes.items) c.into_bytes.ensures.value ∙ written.2)
