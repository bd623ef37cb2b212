use Rattle.std.proofs.Common.{codes}
use Rattle.markup_text.specs.Adding.{adds_then2}
use Rattle.markup_text.specs.Html.{html_of}
use Rattle.ready_core.specs.Words.{refusal_text}
use Rattle.ready_core.specs.declared.verdicts.Refusal.TheVariants.{Own}
use Rattle.page_text.specs.Wanted.{wanted_html}
use Rattle.page_text.proofs.table.add_condition.Goals as goal

pub returns : goal.returns
returns c =
    adds_then2 c.args.cells.now c.add_refusal_words.new.page c.add.new.self c.add_wanted.new.page
    (html_of (refusal_text (Own c.args.condition))) (codes ": ") (wanted_html c.args.gate.now c.args.condition)
    c.add_refusal_words.ensures c.add.ensures c.add_wanted.ensures
