use Rattle.markup_text.proofs.ReadBack.{reads_back}
use Rattle.markup_text.proofs.laws.escaped_texts_read_back.Goals as goal

pub returns : goal.returns
returns c = reads_back
