-- Texts of numbers that are read back, and where a text is cut.
use Rattle.std.proofs.Common.{◌≡◌, ◌<◌, ◌^◌, ◌++◌, ◌∷◌, [], ℕ, Bool, true, false, List, Option, None, Some, Result}
use Rattle.std.proofs.Common.{IsAscii, IsUtf8, decimal, Bor, refl, ap, ◌∙◌, arith, suc, zero, append_assoc}
use Rattle.std.proofs.Common.{codes}
use Rattle.std.specs.Prelude.{◌&&◌, IsSomeAnd, nat_lt, slice_index}
use borrow.Author.Tests.{ltb-true}
use Rattle.std.specs.List.{list_all}
use Rattle.std.specs.Result.{result_ok}
use Rattle.std.specs.Str.Parse.{AllDigits, ParsesUnsigned}
use Rattle.std.proofs.lemmas.Bool.{false≢true}
use Rattle.std.proofs.lemmas.Fmt.{IsAscii-decimal, decimal_is_IsNumeral, parse-decimal}
use Rattle.std.proofs.lemmas.Str.{IsAscii-append, IsUtf8-from_ascii}
use Rattle.std.proofs.lemmas.Str.Parse.{not_in_digits, numerals_by_value, tells_digits}
use Rattle.std.proofs.lemmas.Str.Pattern.{IsSplitOnceResult, split_after}
use Rattle.report_text.specs.Report.{item_text}
use Rattle.state_core.specs.declared.item.Item.{Item}
use Rattle.enqueue_lines.specs.Lines.{NumbersFit, IsShortItem, counts_text, rest_of, site_line_text, site_line_word}
use Rattle.enqueue_lines.specs.Texts.{LacksByte}
use Rattle.enqueue_lines.specs.declared.site_line.SiteLine.{SiteLine}
use Rattle.enqueue_lines.specs.declared.site_line.SiteLine.TheVariants.{Ready, NowReady, NotReady, End, Nothing}

-- ---- tests of each byte

both_true : (p q : Bool) → (p && q) ≡ true → (p ≡ true) × (q ≡ true)
both_true true q e = (refl, e)
both_true false q e = absurd (false≢true e)

ascii_by : (bytes : List ℕ) → list_all (λ byte. nat_lt byte 128) bytes ≡ true → (i : ℕ) → slice_index bytes i < 128
ascii_by [] all i = omega arith
ascii_by (byte ∷ bytes) all zero =
    ltb-true byte 128 (both_true (nat_lt byte 128) (list_all (λ b. nat_lt b 128) bytes) all).0
ascii_by (byte ∷ bytes) all (suc i) =
    ascii_by bytes (both_true (nat_lt byte 128) (list_all (λ b. nat_lt b 128) bytes) all).1 i

pub ascii_tested : (bytes : List ℕ) → list_all (λ byte. nat_lt byte 128) bytes ≡ true → IsAscii bytes
ascii_tested bytes all = ascii_by bytes all

-- ---- cutting

pub cut_so : (byte : ℕ) (front rest text : List ℕ) (cut : Option (Bor (List ℕ) × Bor (List ℕ)))
    → IsSplitOnceResult byte text cut → byte < 128 → LacksByte byte front → text ≡ front ++ byte ∷ rest
    → IsSomeAnd cut (λ parts. (parts.0.now ≡ front) × (parts.1.now ≡ rest))
cut_so byte front rest text None cuts small lacks is =
    split_after byte text front rest None cuts small is lacks
cut_so byte front rest text (Some parts) cuts small lacks is =
    split_after byte text front rest (Some parts) cuts small is lacks

pub lacks_digits : (byte number : ℕ) → number < 2 ^ 64 → byte < 48 → LacksByte byte (decimal number)
lacks_digits byte number fits small =
    not_in_digits (numerals_by_value (AllDigits 10) tells_digits) (decimal number) byte
    (decimal_is_IsNumeral number fits).0.1
    (λ within. omega (arith, within.0))

-- ---- numbers

pub read_back : (E : Type 0) (bits number : ℕ) (digits : List ℕ) (read : Result ℕ E) (result : Option ℕ)
    → number < 2 ^ bits → number < 2 ^ 64 → digits ≡ decimal number → ParsesUnsigned bits 10 digits read
    → result ≡ result_ok read → result ≡ Some number
read_back E bits number digits read result fits short is parses ok =
    ok ∙ ap result_ok (parse-decimal bits number digits read fits short is parses)

pub item_pieces : (item : Item) → item_text item ≡ decimal item.change ++ 44 ∷ decimal item.set
item_pieces item = append_assoc (decimal item.change) (codes ",") (decimal item.set)

pub counts_pieces : (ready out : ℕ) → counts_text ready out ≡ decimal ready ++ 32 ∷ decimal out
counts_pieces ready out = append_assoc (decimal ready) (codes " ") (decimal out)

-- ---- the texts are ASCII

pub ascii_word : (parsed : SiteLine) → IsAscii (site_line_word parsed ++ codes " ")
ascii_word (Ready item) = ascii_tested (codes "ready ") refl
ascii_word (NowReady item) = ascii_tested (codes "+ready ") refl
ascii_word (NotReady item) = ascii_tested (codes "-ready ") refl
ascii_word (End ready out) = ascii_tested (codes "end ") refl
ascii_word Nothing = ascii_tested (codes " ") refl

pub ascii_item : (item : Item) → IsShortItem item → IsAscii (item_text item)
ascii_item item short =
    IsAscii-append _ _
    (IsAscii-append _ _ (IsAscii-decimal item.change (omega (arith, short.change))) (ascii_tested (codes ",") refl))
    (IsAscii-decimal item.set (omega (arith, short.set)))

ascii_rest : (parsed : SiteLine) → NumbersFit parsed → IsAscii (rest_of parsed)
ascii_rest (Ready item) short = ascii_item item short
ascii_rest (NowReady item) short = ascii_item item short
ascii_rest (NotReady item) short = ascii_item item short
ascii_rest (End ready out) short =
    IsAscii-append _ _ (IsAscii-append _ _ (IsAscii-decimal ready short.0) (ascii_tested (codes " ") refl))
    (IsAscii-decimal out short.1)
ascii_rest Nothing short = ascii_tested [] refl

pub site_line_utf8 : (parsed : SiteLine) → NumbersFit parsed → IsUtf8 (site_line_text parsed)
site_line_utf8 parsed short =
    IsUtf8-from_ascii (site_line_text parsed) (IsAscii-append (site_line_word parsed ++ codes " ") (rest_of parsed) (ascii_word parsed) (ascii_rest parsed short))

pub item_utf8 : (item : Item) → IsShortItem item → IsUtf8 (item_text item)
item_utf8 item short = IsUtf8-from_ascii (item_text item) (ascii_item item short)

-- ---- what is read of a word

pub no_value : {X : Type 0} (x : X) → ¬ (None ≡ Some x)
no_value x e = cc

pub item_made : (change set : ℕ) (item : Item) → change ≡ item.change → set ≡ item.set
    → Some (record { change = change; set = set }) ≡ Some item
item_made change set item c s =
    let whole : Item → Option Item = λ i. Some i in
    ap (λ (n : ℕ). whole (record { change = n; set = set })) c
    ∙ ap (λ (n : ℕ). whole (record { change = item.change; set = n })) s

pub counts_made : (ready out other more : ℕ) → ready ≡ other → out ≡ more
    → ◌≡◌ {A = Option (ℕ × ℕ)} (Some (ready, out)) (Some (other, more))
counts_made ready out other more r o =
    let whole : ℕ × ℕ → Option (ℕ × ℕ) = λ counts. Some counts in
    ap (λ (n : ℕ). whole (n, out)) r ∙ ap (λ (n : ℕ). whole (other, n)) o
