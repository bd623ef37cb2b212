use Rattle.std.proofs.Common.{◌∙◌, ap}
use Rattle.page_text.specs.Items.{items_tokens}
use Rattle.page_text.proofs.Marks.{notes_all, notes_same}
use Rattle.page_text.proofs.json_items.items_text.Goals as goal

pub returns : goal.returns
returns c =
    notes_all c.new-out.result c.add_items.new.out c.in_ok-text.text.items c.new-out.ensures
    (notes_same c.add_items.ensures (ap (items_tokens c.args.state.now c.args.choice.now.page)
    (c.as_slice.ensures.value ∙ c.in_ok-chosen.ensures)))
    c.in_ok-text.ensures
