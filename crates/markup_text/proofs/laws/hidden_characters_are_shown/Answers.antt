use Rattle.markup_text.proofs.Plain.{all_kept, all_seen}
use Rattle.markup_text.proofs.laws.hidden_characters_are_shown.Goals as goal

pub returns-clause-none : goal.returns-clause-none
returns-clause-none c = all_seen

pub returns-clause-others : goal.returns-clause-others
returns-clause-others c = all_kept
