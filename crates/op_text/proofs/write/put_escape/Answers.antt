use Rattle.std.proofs.Common.{◌≡◌, ◌∷◌, ◌++◌, [], sym, ap, ◌∙◌, rules}
use Rattle.std.proofs.lemmas.Result.{on_ok_weaker}
use Rattle.json.specs.Print.{escape_byte}
use Rattle.op_text.proofs.write.put_escape.Goals as goal

pub returns-then-letter-gt0-clause-ok : goal.returns-then-letter-gt0-clause-ok
unfolding escape_byte
returns-then-letter-gt0-clause-ok c =
    let is : escape_byte c.args.byte ≡ 92 ∷ c.letter_of-letter.result ∷ [] = search rules in
    on_ok_weaker c.put.result (λ e. e ∙ ap (λ l. c.args.page.now.items ++ l) (sym is)) c.put.ensures.ok

pub returns-then-byte-lt32-clause-ok : goal.returns-then-byte-lt32-clause-ok
unfolding escape_byte
returns-then-byte-lt32-clause-ok c = search rules

pub returns-clause-ok : goal.returns-clause-ok
unfolding escape_byte
returns-clause-ok c = search rules
