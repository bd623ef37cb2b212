-- What a shell reads of a quoted word.
use Rattle.std.proofs.Common.{◌≡◌, ◌∙◌, ◌++◌, ◌∷◌, [], ℕ, Bool, true, false, not, List, Option, Some, None, cond, refl}
use Rattle.std.proofs.Common.{sym, ap, subst, append_assoc, flat_map, length, option_map, codes}
use Rattle.std.specs.Prelude.{◌==◌, ◌&&◌}
use Rattle.std.specs.List.{list_all}
use Rattle.std.proofs.lemmas.Bool.{eqb-true, false≢true}
use Rattle.enqueue_lines.specs.Quoting.{Mode, unquoted, in_quotes, escaped, is_plain, is_bare_byte, quoted, within_quotes}
use Rattle.enqueue_lines.specs.Quoting.{word_from, word_read}

-- ---- in quotes

byte_read : (byte : ℕ) (is_quote : Bool) (word tail : List ℕ) → (byte == 39) ≡ is_quote
    → word_from in_quotes tail ≡ Some word
    → word_from in_quotes (cond is_quote (codes "'\\''") (byte ∷ []) ++ tail) ≡ Some (byte ∷ word)
byte_read byte true word tail is reads =
    ap (option_map (λ w. 39 ∷ w)) reads ∙ ap (λ n. Some (n ∷ word)) (sym (eqb-true byte 39 is))
byte_read byte false word tail is reads =
    ap (λ t. cond t (word_from unquoted tail) (option_map (λ w. byte ∷ w) (word_from in_quotes tail))) is
    ∙ ap (option_map (λ w. byte ∷ w)) reads

quotes_read : (word : List ℕ) → word_from in_quotes (flat_map within_quotes word ++ codes "'") ≡ Some word
quotes_read [] = refl
quotes_read (byte ∷ word) =
    ap (word_from in_quotes) (append_assoc (within_quotes byte) (flat_map within_quotes word) (codes "'"))
    ∙ byte_read byte (byte == 39) word (flat_map within_quotes word ++ codes "'") refl (quotes_read word)

-- ---- as it is

pub both_true : (p q : Bool) → (p && q) ≡ true → (p ≡ true) × (q ≡ true)
both_true true q e = (refl, e)
both_true false q e = absurd (false≢true e)

-- a plain byte is none that isn't plain
pub differs : (byte other : ℕ) (same : Bool) → (byte == other) ≡ same → is_bare_byte byte ≡ true
    → is_bare_byte other ≡ false → same ≡ false
differs byte other false is plain special = refl
differs byte other true is plain special =
    absurd (false≢true (sym special ∙ subst (λ n. is_bare_byte n ≡ true) (eqb-true byte other is) plain))

plain_byte_read : (byte : ℕ) (word : List ℕ) → is_bare_byte byte ≡ true → word_from unquoted word ≡ Some word
    → word_from unquoted (byte ∷ word) ≡ Some (byte ∷ word)
plain_byte_read byte word plain reads =
    let no_quote = differs byte 39 (byte == 39) refl plain refl in
    let no_backslash = differs byte 92 (byte == 92) refl plain refl in
    let rest = option_map (λ w. byte ∷ w) (word_from unquoted word) in
    ap (λ t. cond t (word_from in_quotes word) (cond (byte == 92) (word_from escaped word) (cond (is_bare_byte byte) rest None))) no_quote
    ∙ ap (λ t. cond t (word_from escaped word) (cond (is_bare_byte byte) rest None)) no_backslash
    ∙ ap (λ t. cond t rest None) plain
    ∙ ap (option_map (λ w. byte ∷ w)) reads

plain_read : (word : List ℕ) → list_all is_bare_byte word ≡ true → word_from unquoted word ≡ Some word
plain_read [] all = refl
plain_read (byte ∷ word) all =
    let both = both_true (is_bare_byte byte) (list_all is_bare_byte word) all in
    plain_byte_read byte word both.0 (plain_read word both.1)

-- ---- either

by_test : (word : List ℕ) (plain : Bool) → is_plain word ≡ plain
    → word_read (cond plain word (codes "'" ++ flat_map within_quotes word ++ codes "'")) ≡ Some word
by_test word true is = plain_read word (both_true (not (length word == 0)) (list_all is_bare_byte word) is).1
by_test word false is = quotes_read word

pub quoted_read : (word : List ℕ) → word_read (quoted word) ≡ Some word
quoted_read word = by_test word (is_plain word) refl
