use Rattle.review_ops.specs.Draft.{deed_of}
use Rattle.site_port.specs.Ports.{takes_in, stamped, reply_by}
use Rattle.gossip_line.specs.Steps.{answer_of, call_of}
use Rattle.gossip_line.specs.Texts.{replied}
use Rattle.gossip_line.proofs.Answering.{said_by_any, shown_as_asked}
use Rattle.gossip_line.proofs.answer.answer.Goals as goal

pub returns-in-Says : goal.returns-in-Says
returns-in-Says g c = (
  answer_of c.in-Says.saying,
  said_by_any g.P.Port.gives c.args.port.now c.args.line.now c.args.first (answer_of c.in-Says.saying) c.in-Says.ensures,
  c.say.ensures,
)

pub returns-in-Takes : goal.returns-in-Takes
returns-in-Takes g c =
    let reply = reply_by stamped c.intake.result in (
      replied reply,
      rw c.in-Takes.ensures.0 (takes_in (deed_of c.in-Takes.draft), c.in-Takes.ensures.1, c.intake.ensures),
      c.say_taken.ensures,
    )

pub returns-in-Looks : goal.returns-in-Looks
returns-in-Looks g c =
    rw c.in-Looks.ensures.0 (shown_as_asked g.P.Port.gives c.args.port.now c.args.line.now c.show.new.port (call_of c.in-Looks.look)
    (g.D.Drain.taken c.args.drain.now) (g.D.Drain.taken c.show.new.drain)
    (g.D.Drain.failed c.args.drain.now) (g.D.Drain.failed c.show.new.drain) c.show.result c.in-Looks.ensures.1 c.show.ensures)
