use Rattle.std.proofs.Common.{string_bytes}
use Rattle.console.specs.Showing.{error_output, shows_line}
use Rattle.console.specs.Showing.{torn_line}
use Rattle.console.proofs.showing.show_torn.Goals as goal

pub returns-then-torn-gt0-clause-torn : goal.returns-then-torn-gt0-clause-torn
returns-then-torn-gt0-clause-torn g c some =
    let old = error_output (g.E.Drain.taken c.args.errors.now) (g.E.Drain.failed c.args.errors.now) in
    let new = error_output (g.E.Drain.taken c.show_line.new.errors) (g.E.Drain.failed c.show_line.new.errors) in
    shows_line (λ made. string_bytes made) c.torn_line.result
    (torn_line c.args.torn) old new c.torn_line.ensures c.show_line.ensures
