use Rattle.page_text.proofs.change.begin_titled.Goals as goal

pub returns : goal.returns
returns c = rw (c.from.ensures, c.from-2.ensures, c.subject_of.ensures) at c.begin.ensures.titled
