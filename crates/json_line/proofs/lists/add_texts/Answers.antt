use Rattle.std.proofs.Common.{◌∙◌, ap, string_bytes}
use Rattle.json_line.specs.Adding.{adds_same, adds_then, flat_more}
use Rattle.json_line.specs.Tokens.{text_item}
use Rattle.json_line.proofs.lists.add_texts.Goals as goal

pub loop-text-preserved : goal.loop-text-preserved
loop-text-preserved c =
    adds_same (adds_then c.loop-text.invariant (adds_same c.in_ok-add_text.ensures (ap text_item (c.as_str.ensures.value ∙ ap string_bytes c.text-item.is))))
    (flat_more (λ text. text_item (string_bytes text)) c.args.texts.now c.loop-text.text-index _ c.loop-text-test.true)
