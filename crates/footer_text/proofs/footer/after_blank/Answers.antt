use Rattle.std.proofs.Common.{ℕ, List, ◌∷◌, None, lit<}
use Rattle.std.proofs.lemmas.Str.Pattern.{strip_prefix_char}
use Rattle.footer_text.proofs.Blanks.{last_blank}
use Rattle.footer_text.proofs.footer.after_blank.Goals as goal

pub returns : goal.returns
returns c =
    let text = c.args.text.now in
    let place = λ (b : ℕ) (rest : List ℕ). b ∷ rest in
    last_blank place text _ (strip_prefix_char 32 text None c.in_default.ensures.cases (lit< tt))
    (strip_prefix_char 9 text None c.in_default-strip_prefix.ensures.cases (lit< tt))
    (strip_prefix_char 13 text _ c.strip_prefix-3.ensures.cases (lit< tt))
