use Rattle.std.proofs.Common.{◌∙◌, ap, subst}
use Rattle.page_text.specs.Waiting.{EndsInWaiting, waiting_for}
use Rattle.page_text.proofs.Marks.{has_waiting, notes_then}
use Rattle.page_text.proofs.json_change.end_change.Goals as goal

pub returns : goal.returns
returns c = subst (λ items. EndsInWaiting items c.in_ok-text.text.items)
    (c.as_slice.ensures.value ∙ c.in_ok-waiting.ensures ∙ ap (waiting_for c.args.change) c.out.ensures)
    (has_waiting c.as_slice.result.now c.args.out c.add.new.self c.in_ok-text.text.items
    (notes_then c.put_waiting.ensures c.add.ensures) c.in_ok-text.ensures)
