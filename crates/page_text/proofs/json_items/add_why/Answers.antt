use Rattle.std.proofs.Common.{◌∙◌, ap}
use Rattle.page_text.specs.Items.{words_tokens}
use Rattle.page_text.proofs.Marks.{notes_same}
use Rattle.page_text.proofs.json_items.add_why.Goals as goal

pub returns-in-Ok : goal.returns-in-Ok
returns-in-Ok c = notes_same c.add_words.ensures (ap words_tokens (c.as_str.ensures.value ∙ c.in-Ok.ensures))
