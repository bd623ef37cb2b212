use Rattle.std.proofs.Common.{ℕ, List, [], ◌∷◌, ◌++◌, None, lit<}
use Rattle.std.proofs.lemmas.Str.Pattern.{strip_suffix_char}
use Rattle.footer_text.proofs.Blanks.{last_blank}
use Rattle.footer_text.proofs.footer.before_blank.Goals as goal

pub returns : goal.returns
returns c =
    let text = c.args.text.now in
    let place = λ (b : ℕ) (rest : List ℕ). rest ++ b ∷ [] in
    last_blank place text _ (strip_suffix_char 32 text None c.in_default.ensures.cases (lit< tt))
    (strip_suffix_char 9 text None c.in_default-strip_suffix.ensures.cases (lit< tt))
    (strip_suffix_char 13 text _ c.strip_suffix-3.ensures.cases (lit< tt))
