-- What the methods of `str` give, by bytes.
use Rattle.std.proofs.Common.{◌≡◌, ℕ, ◌<◌, ◌≤◌, ◌+◌, ◌≢◌, Option, Some, None, List, ◌∷◌, ◌++◌, length, take, drop}
use Rattle.std.proofs.Common.{MatchOption, sym, ap, ◌∙◌, take-append-drop}
use Rattle.std.specs.Str.Pattern.{RFindsChar, FindsTextPrefix, StripsPrefix}
use Rattle.std.specs.Borrow.{Bor}
use Rattle.std.proofs.lemmas.Str.Pattern.{drop_at_char, NoCharPasses-char}
use Rattle.footer_text.specs.Cuts.{Lacks, Lacks-by_index}

-- `rsplit_once` at a character
pub rsplit_parts : (c : ℕ) (bs : List ℕ) (r : Option (Bor (List ℕ) × Bor (List ℕ)))
    → MatchOption r (RFindsChar c bs None) (λ x. (i : ℕ) × (j : ℕ) × RFindsChar c bs (Some (i, j)) × (x.0.now ≡ take i bs) × (x.1.now ≡ drop j bs) × (i ≤ j) × (length x.0.now ≡ i) × (length x.1.now + j ≡ length bs))
    → c < 128 → MatchOption r (Lacks c bs) (λ x. (bs ≡ x.0.now ++ c ∷ x.1.now) × Lacks c x.1.now)
rsplit_parts c bs None h small = Lacks-by_index c bs (λ i l. NoCharPasses-char c bs i h small l)
rsplit_parts c bs (Some x) h small =
    let i = h.0 in
    let j = h.1 in
    let cut : bs ≡ take i bs ++ c ∷ drop j bs = sym (take-append-drop i bs) ∙ ap (λ l. take i bs ++ l) (drop_at_char c bs i j h.2.1 small) in
    (rw (h.3, h.4) cut, rw h.4 (Lacks-by_index c (drop j bs) (λ k l. NoCharPasses-char c (drop j bs) k h.2.0 small l)))

-- `strip_prefix` at a text
pub strip_prefix_text : (prefix bs : List ℕ) (r : Option (Bor (List ℕ)))
    → MatchOption r (FindsTextPrefix prefix bs None) (λ x. StripsPrefix (FindsTextPrefix prefix) bs x.now)
    → MatchOption r ((rest : List ℕ) → bs ≢ prefix ++ rest) (λ x. bs ≡ prefix ++ x.now)
strip_prefix_text prefix bs None h = h
strip_prefix_text prefix bs (Some x) h = rw h.2 h.1.1
