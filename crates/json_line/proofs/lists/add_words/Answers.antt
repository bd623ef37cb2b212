use Rattle.json_line.specs.Adding.{adds_same, adds_then, flat_more}
use Rattle.json_line.specs.Tokens.{text_item}
use Rattle.json_line.proofs.lists.add_words.Goals as goal

pub loop-word-preserved : goal.loop-word-preserved
loop-word-preserved c =
    adds_same (adds_then c.loop-word.invariant c.in_ok-add_text.ensures)
    (flat_more (λ word. text_item word.now) c.args.words.now c.loop-word.word-index _ c.loop-word-test.true)
