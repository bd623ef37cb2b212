use Rattle.std.proofs.Common.{◌≡◌, true, sym, ap, ◌∙◌, string_bytes}
use Rattle.std.specs.Str.{bytes_eq}
use Rattle.gerrit_events.specs.Tests.{some_at}
use Rattle.gerrit_events.proofs.projects.is_among.Goals as goal

pub returns-then-is_name : goal.returns-then-is_name
returns-then-is_name c =
    let same : bytes_eq c.args.name.now (string_bytes c.other-item.result) ≡ true = cc in
    sym
    (some_at (bytes_eq c.args.name.now) (λ text. string_bytes text) c.args.names.now c.loop-other.other-index
    c.other-item.result c.loop-other-test.true
    (ap (λ text. bytes_eq c.args.name.now (string_bytes text)) (sym c.other-item.is) ∙ same))
