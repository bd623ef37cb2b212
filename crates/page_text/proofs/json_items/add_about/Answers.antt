use Rattle.page_text.proofs.json_items.add_about.Goals as goal

pub returns : goal.returns
returns c = rw (c.from.ensures, c.from-2.ensures, c.subject_of.ensures) at c.add.ensures
