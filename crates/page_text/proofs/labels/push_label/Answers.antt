use Rattle.std.proofs.Common.{string_bytes}
use Rattle.page_text.proofs.LabelSteps.{letter_more, letters_done, text_left}
use Rattle.page_text.proofs.labels.push_label.Goals as goal

pub loop-letter-preserved : goal.loop-letter-preserved
loop-letter-preserved c = record {
  can_next = tt;
  is_finite = tt;
  text = text_left _ _ _ c.loop-letter.invariant.text c.in-Some.ensures.steps.0;
  so_far = letter_more (string_bytes c.loop-letter.text) (string_bytes c.push_letter.new.text) _ _ _ c.in-Some.letter
      c.loop-letter.invariant.text c.in-Some.ensures.steps.0 c.in_ok-push_letter.ensures c.loop-letter.invariant.so_far;
}

pub returns : goal.returns
returns c = letters_done (string_bytes c.loop-letter.text) _ _ c.in-None.ensures.steps.0.0 c.loop-letter.invariant.so_far
