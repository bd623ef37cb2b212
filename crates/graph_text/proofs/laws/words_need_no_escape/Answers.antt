use Rattle.graph_text.proofs.Words.{item_plain, refusal_plain}
use Rattle.graph_text.proofs.laws.words_need_no_escape.Goals as goal

pub returns-clause-item : goal.returns-clause-item
returns-clause-item c = item_plain

pub returns-clause-refusal : goal.returns-clause-refusal
returns-clause-refusal c = refusal_plain
