use Rattle.page_text.proofs.json_status.add_peer.Goals as goal

pub returns : goal.returns
returns c = rw c.as_str.ensures.value at c.add.ensures
