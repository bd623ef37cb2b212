use Rattle.std.proofs.Common.{subst, sym}
use Rattle.page_text.specs.Answer.{There}
use Rattle.page_text.specs.Titles.{IsTitled, item_title}
use Rattle.page_text.proofs.answer.change_answer.Goals as goal

pub returns : goal.returns
returns c = There c.in-Some.item c.in-Some.ensures.asked (record {
  is = c.found.ensures.is;
  titled = subst (IsTitled (item_title c.args.state.now c.in-Some.item)) (sym c.found.ensures.text_is) c.in_ok-body-2.ensures;
})
