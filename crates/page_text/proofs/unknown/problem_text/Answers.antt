use Rattle.page_text.proofs.Marks.{notes_all}
use Rattle.page_text.proofs.unknown.problem_text.Goals as goal

pub returns : goal.returns
returns c = notes_all c.new-out.result c.add.new.self c.in_ok-text.text.items c.new-out.ensures c.add.ensures c.in_ok-text.ensures
