-- What is passed over, where nothing was held but what came last.
use Rattle.std.proofs.Common.{◌≡◌, ◌≢◌, ℕ, List, [], ◌∷◌, ◌++◌, sym, ap, ◌∙◌, subst, append_assoc}
use Rattle.std.proofs.lemmas.List.Elements.{All-append}
use Rattle.byte_ends.specs.Lines.{as_line}
use Rattle.line_reader.specs.Lines.{HasNoLf}

-- what is read beside an empty list is what came
pub alone : (held read came : List ℕ) → held ≡ [] → read ≡ held ++ came → came ≡ read
alone held read came none is = sym (is ∙ ap (λ l. l ++ came) none)

-- a line that began before what came
pub line_later : (before first came piece rest : List ℕ) → came ≡ as_line piece ++ rest
    → before ++ (first ++ came) ≡ as_line ((before ++ first) ++ piece) ++ rest
line_later before first came piece rest is =
    sym (append_assoc before first came)
    ∙ ap (λ l. (before ++ first) ++ l) is
    ∙ sym (append_assoc (before ++ first) (as_line piece) rest)
    ∙ ap (λ l. l ++ rest) (sym (append_assoc (before ++ first) piece (10 ∷ [])))

pub plain_on : (before first came : List ℕ) → HasNoLf (before ++ first) → HasNoLf came
    → HasNoLf (before ++ (first ++ came))
plain_on before first came plain more =
    subst HasNoLf (append_assoc before first came) (All-append (λ byte. byte ≢ 10) (before ++ first) came plain more)

pub plain_both : (first came : List ℕ) → HasNoLf first → HasNoLf came → HasNoLf (first ++ came)
plain_both first came plain more = All-append (λ byte. byte ≢ 10) first came plain more
