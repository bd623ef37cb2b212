use Rattle.std.proofs.Common.{arith}
use Rattle.byte_ends.specs.Ends.{ends_failed}
use Rattle.gossip_line.specs.Steps.{answer_of}
use Rattle.gossip_line.specs.Texts.{answer_text, next_of}
use Rattle.site_serve.proofs.Boxes.{adds_of}
use Rattle.site_serve.proofs.outbox.Outbox.say.Goals as goal

pub returns : goal.returns
returns c =
    rw (← c.self.view_is) (adds_of (answer_text (answer_of c.args.saying)) (next_of (answer_of c.args.saying)) c.self.inside.sent
    c.self.inside.answers.items c.into_inner.result.items (ends_failed c.drain_over-drain.result) (ends_failed c.say-said.new.drain) c.say-said.result c.refusing_memory.result (omega (arith, c.self.invariant, c.self.inside.answers.ok.0))
    (rw (← c.drain_over-drain.ensures.inner, c.into_inner.ensures) c.say-said.ensures) c.refusing_memory.ensures)
