use Rattle.std.proofs.Common.{codes}
use Rattle.markup_text.specs.Adding.{adds_then2}
use Rattle.markup_text.specs.Html.{html_of}
use Rattle.ready_core.specs.Words.{refusal_text}
use Rattle.page_text.specs.Table.{link_html}
use Rattle.page_text.proofs.links.add_left.Goals as goal

pub returns : goal.returns
returns c =
    adds_then2 c.args.page.now c.add_item_link.new.page c.add.new.self c.add_refusal_words.new.page
    (link_html c.args.left.item) (codes " ") (html_of (refusal_text c.args.left.refusal))
    c.add_item_link.ensures c.add.ensures c.add_refusal_words.ensures
