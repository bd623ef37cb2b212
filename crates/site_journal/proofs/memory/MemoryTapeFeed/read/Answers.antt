use Rattle.std.proofs.Common.{◌-◌, ◌≤◌, length, ◌∙◌, ap, arith, drop, take}
use Rattle.site_journal.proofs.Fronts.{left_is, read_front}
use Rattle.site_journal.proofs.memory.MemoryTapeFeed.read.Goals as goal

pub returns-in-Ok-clause-bytes : goal.returns-in-Ok-clause-bytes
returns-in-Ok-clause-bytes c =
    let tape = c.args.self.now in
    let within : tape.len ≤ length tape.bytes.items = omega (arith, tape.shorter, tape.bytes.ok.0) in
    let cut = ap (λ l. take (tape.len - c.min-at.result) (drop c.min-at.result l)) c.deref.ensures.value in (
      read_front tape.bytes.items _ c.read.new.self.now tape.at c.min-at.result tape.len c.in-Ok.count within c.min-at.ensures cut c.in-Ok.ensures.rest (take c.in-Ok.count c.read.new.buf) c.in-Ok.ensures.bytes.0,
      λ none some.
          left_is tape.bytes.items _ c.read.new.self.now tape.at c.min-at.result tape.len c.in-Ok.count within c.min-at.ensures cut c.in-Ok.ensures.rest
          ∙ c.in-Ok.ensures.bytes.1 none some,
    )
