use Rattle.std.proofs.Common.{◌∙◌, ap, codes, map, string_bytes}
use Rattle.std.proofs.lemmas.Result.{IfOk-weaker}
use Rattle.json_line.specs.Adding.{adds_same, adds_then, begun, finished}
use Rattle.json_line.specs.Tokens.{texts_listed}
use Rattle.commands.proofs.footers.footers_line.Goals as goal

pub line_of-requires : goal.line_of-requires
line_of-requires c =
    begun (c.new-out.ensures.before ∙ c.new.ensures.items)
    (adds_then c.in_ok-open_object.ensures (adds_then (adds_then c.in_ok-put_numbers.ensures (adds_then c.in_ok-put_words.ensures (adds_same c.in_ok-put_texts.ensures (ap (texts_listed (codes "bases")) (ap (map string_bytes) c.as_slice.ensures.value ∙ c.iter.ensures))))) c.in_ok-close_object.ensures))

pub returns : goal.returns
returns c =
    IfOk-weaker c.line_of.result _ _
    (λ line is. finished c.new-out.ensures.tokens
    (adds_then c.in_ok-open_object.ensures (adds_then (adds_then c.in_ok-put_numbers.ensures (adds_then c.in_ok-put_words.ensures (adds_same c.in_ok-put_texts.ensures (ap (texts_listed (codes "bases")) (ap (map string_bytes) c.as_slice.ensures.value ∙ c.iter.ensures))))) c.in_ok-close_object.ensures)) is) c.line_of.ensures.line
