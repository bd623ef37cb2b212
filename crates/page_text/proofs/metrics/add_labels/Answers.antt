use Rattle.page_text.proofs.metrics.add_labels.Goals as goal

pub returns : goal.returns
returns c = rw (c.from.ensures, c.from-2.ensures) at c.add.ensures
