use Rattle.op_text.proofs.FrontTexts.{SayFront-empty, SayFront-push}
use Rattle.op_text.proofs.front.front_of.Goals as goal

pub loop-site-init : goal.loop-site-init
loop-site-init c = SayFront-empty c.new-front.result c.new-front.ensures

pub loop-site-preserved : goal.loop-site-preserved
loop-site-preserved c = SayFront-push c.loop-site.yielded (c.in-Some.site, c.in-Some.start, c.in-Some.count) c.loop-site.front c.raise.new.self c.loop-site.invariant c.in_ok-raise.ensures.ok
