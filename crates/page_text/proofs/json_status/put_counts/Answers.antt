use Rattle.page_text.proofs.json_status.put_counts.Goals as goal

pub returns : goal.returns
returns c =
    rw (c.len.ensures, c.ready.ensures, c.out.ensures, c.count_of.ensures, c.out-2.ensures) at c.add.ensures
