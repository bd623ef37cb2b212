-- Texts of lines: where they are cut, which numbers they have, and that they are ASCII.
use Rattle.std.proofs.Common.{◌≡◌, ◌<◌, ◌^◌, ◌++◌, ◌∷◌, [], ℕ, Bool, true, false, not, List, Option, None, Some, Result}
use Rattle.std.proofs.Common.{IsAscii, IsUtf8, decimal, Bor, refl, sym, ap, ◌∙◌, arith, suc, zero, append_assoc, subst}
use Rattle.std.proofs.Common.{codes}
use Rattle.std.specs.Prelude.{◌&&◌, ◌==◌, IsSomeAnd, nat_lt, slice_index}
use borrow.Author.Tests.{ltb-true}
use Rattle.std.specs.List.{list_all}
use Rattle.std.specs.Result.{result_ok}
use Rattle.std.specs.Str.Parse.{AllDigits, ParsesUnsigned}
use Rattle.std.proofs.lemmas.Bool.{false≢true}
use Rattle.std.proofs.lemmas.Fmt.{IsAscii-decimal, decimal_is_IsNumeral, parse-decimal}
use Rattle.std.proofs.lemmas.Str.{IsAscii-append, IsUtf8-from_ascii}
use Rattle.std.proofs.lemmas.Str.Parse.{not_in_digits, numerals_by_value, tells_digits}
use Rattle.std.proofs.lemmas.Str.Pattern.{IsSplitOnceResult, split_after}
use Rattle.query_plan.specs.Line.{LacksBlank, LineFits, WordFits, plan_line_text, word_alone, word_rest, word_text}
use Rattle.query_plan.specs.declared.line.Line.{Line}
use Rattle.query_plan.specs.declared.line.Word.{Word}
use Rattle.query_plan.specs.declared.line.Word.TheVariants.{Ask, Need, All, Next, Listed, Whole, Refused, Late, Lost}

-- ---- tests of each byte

both_true : (p q : Bool) → (p && q) ≡ true → (p ≡ true) × (q ≡ true)
both_true true q e = (refl, e)
both_true false q e = absurd (false≢true e)

ascii_by : (bytes : List ℕ) → list_all (λ byte. nat_lt byte 128) bytes ≡ true → (i : ℕ) → slice_index bytes i < 128
ascii_by [] all i = omega arith
ascii_by (byte ∷ bytes) all zero =
    ltb-true byte 128 (both_true (nat_lt byte 128) (list_all (λ b. nat_lt b 128) bytes) all).0
ascii_by (byte ∷ bytes) all (suc i) =
    ascii_by bytes (both_true (nat_lt byte 128) (list_all (λ b. nat_lt b 128) bytes) all).1 i

ascii_tested : (bytes : List ℕ) → list_all (λ byte. nat_lt byte 128) bytes ≡ true → IsAscii bytes
ascii_tested bytes all = ascii_by bytes all

-- ---- cutting

pub cut_so : (front rest text : List ℕ) (cut : Option (Bor (List ℕ) × Bor (List ℕ)))
    → IsSplitOnceResult 32 text cut → LacksBlank front → text ≡ front ++ 32 ∷ rest
    → IsSomeAnd cut (λ parts. (parts.0.now ≡ front) × (parts.1.now ≡ rest))
cut_so front rest text None cuts lacks is = split_after 32 text front rest None cuts (omega arith) is lacks
cut_so front rest text (Some parts) cuts lacks is =
    split_after 32 text front rest (Some parts) cuts (omega arith) is lacks

pub lacks_digits : (number : ℕ) → number < 2 ^ 64 → LacksBlank (decimal number)
lacks_digits number fits =
    not_in_digits (numerals_by_value (AllDigits 10) tells_digits) (decimal number) 32
    (decimal_is_IsNumeral number fits).0.1
    (λ within. omega (arith, within.0))

-- ---- numbers

pub read_back : (E : Type 0) (bits number : ℕ) (digits : List ℕ) (read : Result ℕ E) (result : Option ℕ)
    → number < 2 ^ bits → number < 2 ^ 64 → digits ≡ decimal number → ParsesUnsigned bits 10 digits read
    → result ≡ result_ok read → result ≡ Some number
read_back E bits number digits read result fits short is parses ok =
    ok ∙ ap result_ok (parse-decimal bits number digits read fits short is parses)

-- ---- the texts are ASCII

ascii_named : (name : List ℕ) (change : ℕ) → list_all (λ byte. nat_lt byte 128) name ≡ true → change < 2 ^ 32
    → IsAscii (name ++ decimal change)
ascii_named name change plain fits =
    IsAscii-append name (decimal change) (ascii_tested name plain) (IsAscii-decimal change (omega (arith, fits)))

ascii_word : (word : Word) → WordFits word → IsAscii (word_text word)
ascii_word (Ask change) fits = ascii_named (codes "ask ") change refl fits
ascii_word (Need change) fits = ascii_named (codes "need ") change refl fits
ascii_word All fits = ascii_tested (codes "all") refl
ascii_word Next fits = ascii_tested (codes "next") refl
ascii_word (Listed change) fits = ascii_named (codes "listed ") change refl fits
ascii_word Whole fits = ascii_tested (codes "whole") refl
ascii_word Refused fits = ascii_tested (codes "refused") refl
ascii_word Late fits = ascii_tested (codes "late") refl
ascii_word Lost fits = ascii_tested (codes "lost") refl

pub line_utf8 : (line : Line) → LineFits line → IsUtf8 (plan_line_text line)
line_utf8 line fits =
    IsUtf8-from_ascii (plan_line_text line)
    (IsAscii-append (decimal line.time ++ codes " ") (word_text line.word)
    (IsAscii-append (decimal line.time) (codes " ") (IsAscii-decimal line.time fits.time) (ascii_tested (codes " ") refl))
    (ascii_word line.word fits.word))

-- ---- the pieces of a line

lacks_by : (bytes : List ℕ) → list_all (λ byte. not (byte == 32)) bytes ≡ true → LacksBlank bytes
lacks_by [] all i within = absurd (omega arith)
lacks_by (byte ∷ bytes) all zero within =
    λ is. false≢true (subst (λ (n : ℕ). not (n == 32) ≡ true) is (both_true (not (byte == 32)) (list_all (λ b. not (b == 32)) bytes) all).0)
lacks_by (byte ∷ bytes) all (suc i) within =
    lacks_by bytes (both_true (not (byte == 32)) (list_all (λ b. not (b == 32)) bytes) all).1 i (omega arith)

pub line_pieces : (line : Line) → plan_line_text line ≡ decimal line.time ++ 32 ∷ word_text line.word
line_pieces line = append_assoc (decimal line.time) (codes " ") (word_text line.word)

-- what comes before the first blank of a text, and after it
pub record IsCut (text first rest : List ℕ) : Type 0 where
  pub cut : (front back : List ℕ) → LacksBlank front → text ≡ front ++ 32 ∷ back → (first ≡ front) × (rest ≡ back)
  pub whole : LacksBlank text → (first ≡ text) × (rest ≡ [])

bare : (name text first rest : List ℕ) → list_all (λ byte. not (byte == 32)) name ≡ true → IsCut text first rest
    → text ≡ name → (first ≡ name) × (rest ≡ [])
bare name text first rest plain cuts is =
    let parts = cuts.whole (subst LacksBlank (sym is) (lacks_by name plain)) in (parts.0 ∙ is, parts.1)

pub word_pieces : (word : Word) (text first rest : List ℕ) → IsCut text first rest → text ≡ word_text word
    → (first ≡ word_alone word) × (rest ≡ word_rest word)
word_pieces (Ask change) text first rest cuts is =
    cuts.cut (codes "ask") (decimal change) (lacks_by (codes "ask") refl) is
word_pieces (Need change) text first rest cuts is =
    cuts.cut (codes "need") (decimal change) (lacks_by (codes "need") refl) is
word_pieces All text first rest cuts is = bare (codes "all") text first rest refl cuts is
word_pieces Next text first rest cuts is = bare (codes "next") text first rest refl cuts is
word_pieces (Listed change) text first rest cuts is =
    cuts.cut (codes "listed") (decimal change) (lacks_by (codes "listed") refl) is
word_pieces Whole text first rest cuts is = bare (codes "whole") text first rest refl cuts is
word_pieces Refused text first rest cuts is = bare (codes "refused") text first rest refl cuts is
word_pieces Late text first rest cuts is = bare (codes "late") text first rest refl cuts is
word_pieces Lost text first rest cuts is = bare (codes "lost") text first rest refl cuts is

-- ---- what is made of them

pub no_value : {X : Type 0} (x : X) → ¬ (None ≡ Some x)
no_value x e = cc

pub line_made : (time : ℕ) (word : Word) (line : Line) → time ≡ line.time → word ≡ line.word
    → Some (record { time = time; word = word }) ≡ Some line
line_made time word line t w =
    let whole : Line → Option Line = λ l. Some l in
    ap (λ (n : ℕ). whole (record { time = n; word = word })) t
    ∙ ap (λ (x : Word). whole (record { time = line.time; word = x })) w
