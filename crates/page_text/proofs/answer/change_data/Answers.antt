use Rattle.std.proofs.Common.{subst, sym}
use Rattle.page_text.specs.Answer.{There}
use Rattle.page_text.specs.Waiting.{EndsInWaiting, waiting_for}
use Rattle.page_text.proofs.answer.change_data.Goals as goal

pub returns : goal.returns
returns c = There c.in-Some.item c.in-Some.ensures.asked (record {
  is = c.found.ensures.is;
  waiting = subst (EndsInWaiting (waiting_for c.in-Some.item.change c.args.verdicts.now.out)) (sym c.found.ensures.text_is)
      c.in_ok-body-2.ensures;
})
