use Rattle.page_text.proofs.table.add_head.Goals as goal

pub returns : goal.returns
returns c = rw (c.from.ensures, c.max.ensures, c.pages_of.ensures) at c.add.ensures
