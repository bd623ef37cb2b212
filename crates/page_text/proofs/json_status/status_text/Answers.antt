use Rattle.page_text.proofs.Marks.{notes_all}
use Rattle.page_text.proofs.json_status.status_text.Goals as goal

pub returns : goal.returns
returns c =
    notes_all c.new-out.result c.put_status.new.out c.in_ok-text.text.items c.new-out.ensures c.put_status.ensures
    c.in_ok-text.ensures
