use Rattle.std.proofs.Common.{◌≡◌, ◌++◌, ◌∙◌, ap, subst, string_bytes, sym}
use Rattle.std.specs.Prelude.{OnOk}
use Rattle.markup_text.specs.Shown.{code_text}
use Rattle.markup_text.proofs.Plain.{codes_plain}
use Rattle.markup_text.proofs.writing.push_code.Goals as goal

pub returns : goal.returns
returns c = subst
    (λ text. OnOk c.push_number.result (string_bytes c.push_number.new.html ≡ string_bytes c.args.html.now ++ text))
    (ap code_text c.from.ensures ∙ sym (codes_plain c.args.letter)) c.push_number.ensures
