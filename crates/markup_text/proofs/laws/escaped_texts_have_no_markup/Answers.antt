use Rattle.markup_text.proofs.ReadBack.{all_clean}
use Rattle.markup_text.proofs.laws.escaped_texts_have_no_markup.Goals as goal

pub returns : goal.returns
returns c = all_clean
