-- HTML in which no row begins, piece after piece.
use Rattle.std.proofs.Common.{◌≡◌, ◌∙◌, ℕ, ◌<◌, ◌/◌, ◌%◌, suc, zero, List, [], ◌∷◌, ◌++◌, Bool, true, false}
use Rattle.std.proofs.Common.{All, flat_map, refl, ap, sym, subst, append_assoc, append-nil, arith}
use Rattle.std.specs.Prelude.{◌==◌, ◌||◌, ◌≢◌, IfSome, MatchOption, Option, None, Some, codes, decimal, if◌then◌else◌}
use Rattle.std.specs.Fmt.{digit_glyph, digits, digits_onto}
use Rattle.std.specs.List.{list_any}
use Rattle.std.proofs.lemmas.Bool.{eqb-true, or_from, or_parts}
use Rattle.std.proofs.lemmas.Bool.Decides.{nat_tests}
use Rattle.std.proofs.lemmas.List.Folds.{list_any-append}
use Rattle.std.proofs.lemmas.List.Elements.{All-cons, All-nil}
use Rattle.std.specs.Borrow.{Bor}
use Rattle.std.specs.Option.{unwrap_or}
use Rattle.percent_encoding.specs.AsciiSet.{should_percent_encode}
use Rattle.percent_encoding.specs.Percent.{percent_encode, percent_encode_byte}
use Rattle.markup_text.specs.Adding.{grows_then}
use Rattle.markup_text.specs.Growing.{Adds}
use Rattle.markup_text.specs.Html.{escaped, html_of}
use Rattle.markup_text.specs.Pieces.{piece_html}
use Rattle.markup_text.specs.Reading.{is_markup}
use Rattle.markup_text.specs.Shown.{shown_text}
use Rattle.markup_text.specs.declared.markup.TheConstants.{ENCODED}
use Rattle.markup_text.specs.declared.piece.Piece.{Piece}
use Rattle.markup_text.specs.declared.piece.Piece.TheVariants.{Markup, Text, Query, Number, Signed}
use Rattle.page_routes.specs.declared.route.Reason.{Reason}
use Rattle.page_routes.specs.declared.route.Reason.TheVariants.{Require, Reject, Cycle, Unknown, Dependency}
use Rattle.page_routes.specs.declared.route.Shown.{Shown}
use Rattle.page_routes.specs.declared.route.Shown.TheVariants as shown
use Rattle.page_text.specs.Names.{reason_name, shown_name}
use Rattle.page_text.specs.Rowless.{AddsRowless, Begun, HasLetter, HasSign, IsRow, IsRowless, IsRowlessPiece, LacksRows, NotBegun}
use Rattle.page_text.specs.Rowless.{begun_by, begun_in}

begun_append : (begun : Begun) (xs ys : List ℕ) → begun_in begun (xs ++ ys) ≡ begun_in (begun_in begun xs) ys
unfolding begun_in
begun_append begun [] ys = refl
begun_append begun (x ∷ xs) ys = begun_append (begun_by begun x) xs ys

pub rowless_nil : IsRowless []
unfolding begun_in
rowless_nil = refl

pub rowless_append : (xs ys : List ℕ) → IsRowless xs → IsRowless ys → IsRowless (xs ++ ys)
rowless_append xs ys p q = begun_append NotBegun xs ys ∙ ap (λ b. begun_in b ys) p ∙ q

-- ---- what is rowless has no row
row_stays : (xs : List ℕ) → begun_in IsRow xs ≡ IsRow
unfolding begun_in
row_stays [] = refl
row_stays (x ∷ xs) = row_stays xs

row_read : (begun : Begun) → begun_in begun (codes "<tr") ≡ IsRow
unfolding begun_in
row_read NotBegun = refl
row_read HasSign = refl
row_read HasLetter = refl
row_read IsRow = refl

pub lacks_rows : (html : List ℕ) → IsRowless html → LacksRows html
lacks_rows html rowless before after is =
    let row : begun_in NotBegun html ≡ IsRow
    = ap (begun_in NotBegun) is ∙ begun_append NotBegun before (codes "<tr" ++ after)
    ∙ begun_append (begun_in NotBegun before) (codes "<tr") after
    ∙ ap (λ b. begun_in b after) (row_read (begun_in NotBegun before)) ∙ row_stays after in
    let both : NotBegun ≡ IsRow = sym rowless ∙ row in
    cc

-- ---- the parts of a template
place_read : (begun : Begun) (after : List ℕ) → begun_in begun (codes "{}" ++ after) ≡ NotBegun
    → (begun ≡ NotBegun) × IsRowless after
unfolding begun_in
place_read NotBegun after e = (refl, e)
place_read HasSign after e = let both : NotBegun ≡ IsRow = sym e ∙ row_stays after in absurd (cc)
place_read HasLetter after e = let both : NotBegun ≡ IsRow = sym e ∙ row_stays after in absurd (cc)
place_read IsRow after e = let both : NotBegun ≡ IsRow = sym e ∙ row_stays after in absurd (cc)

pub parts_rowless : (before after : List ℕ) → IsRowless (before ++ (codes "{}" ++ after))
    → IsRowless before × IsRowless after
parts_rowless before after rowless =
    place_read (begun_in NotBegun before) after (sym (begun_append NotBegun before (codes "{}" ++ after)) ∙ rowless)

-- ---- pieces
abbrev is_sign : ℕ → Bool
is_sign byte = byte == 60

plain_rowless : (html : List ℕ) → list_any is_sign html ≡ false → IsRowless html
unfolding begun_in
plain_rowless [] e = refl
plain_rowless (x ∷ xs) e =
    let parts = or_parts (x == 60) (list_any is_sign xs) e in
    ap (λ b. begun_in (if b then HasSign else NotBegun) xs) parts.0 ∙ plain_rowless xs parts.1

markup_signs : (html : List ℕ) → list_any is_markup html ≡ false → list_any is_sign html ≡ false
markup_signs [] e = refl
markup_signs (x ∷ xs) e =
    let parts = or_parts (is_markup x) (list_any is_markup xs) e in
    let three = or_parts (((x == 60) || (x == 62)) || (x == 34)) (x == 39) parts.0 in
    let two = or_parts ((x == 60) || (x == 62)) (x == 34) three.0 in
    let one = or_parts (x == 60) (x == 62) two.0 in
    or_from (x == 60) (list_any is_sign xs) one.0 (markup_signs xs parts.1)

abbrev EscapedHaveNoMarkup : Type 0
EscapedHaveNoMarkup = (letters : List ℕ) → list_any is_markup (flat_map escaped letters) ≡ false

digit_is_no_sign : (d : ℕ) → d < 10 → is_sign (digit_glyph false d) ≡ false
digit_is_no_sign d small = grind (arith, nat_tests)

digits_have_no_sign : (k n : ℕ) (rest : List ℕ) → list_any is_sign rest ≡ false
    → list_any is_sign (digits_onto k 10 false n rest) ≡ false
digits_have_no_sign zero n rest e = e
digits_have_no_sign (suc k) n rest e =
    let glyph = digit_glyph false (n % 10) in
    let more = or_from (is_sign glyph) (list_any is_sign rest) (digit_is_no_sign (n % 10) (omega arith)) e in
    elim (n / 10 == 0) as (λ b. list_any is_sign (if b then glyph ∷ rest else digits_onto k 10 false (n / 10) (glyph ∷ rest)) ≡ false) [
      | true ↦ more
      | false ↦ digits_have_no_sign k (n / 10) (glyph ∷ rest) more
    ]

pub decimal_rowless : (n : ℕ) → IsRowless (decimal n)
unfolding digits
decimal_rowless n = plain_rowless (decimal n) (digits_have_no_sign 64 n [] refl)

hex_is_no_sign : (d : ℕ) → d < 16 → is_sign (digit_glyph true d) ≡ false
hex_is_no_sign d small = grind (arith, nat_tests)

escape_has_no_sign : (byte : ℕ) → list_any is_sign (percent_encode_byte byte) ≡ false
unfolding percent_encode_byte
escape_has_no_sign byte =
    or_from (is_sign (digit_glyph true (byte / 16 % 16))) _ (hex_is_no_sign (byte / 16 % 16) (omega arith))
    (or_from (is_sign (digit_glyph true (byte % 16))) _ (hex_is_no_sign (byte % 16) (omega arith)) refl)

sign_is_encoded : should_percent_encode ENCODED 60 ≡ false → ⊥
unfolding should_percent_encode
sign_is_encoded e = let both : true ≡ false = e in cc

encoded_has_no_sign : (byte : ℕ) (is_encoded is_sign_byte : Bool) → should_percent_encode ENCODED byte ≡ is_encoded
    → is_sign byte ≡ is_sign_byte
    → list_any is_sign (if is_encoded then percent_encode_byte byte else byte ∷ []) ≡ false
encoded_has_no_sign byte true b e f = escape_has_no_sign byte
encoded_has_no_sign byte false false e f = or_from (is_sign byte) false f refl
encoded_has_no_sign byte false true e f =
    let encoded = ap (should_percent_encode ENCODED) (sym (eqb-true byte 60 f)) ∙ e in
    absurd (sign_is_encoded encoded)

query_has_no_sign : (bytes : List ℕ) → list_any is_sign (percent_encode ENCODED bytes) ≡ false
unfolding percent_encode
query_has_no_sign [] = refl
query_has_no_sign (byte ∷ bytes) =
    list_any-append is_sign (if should_percent_encode ENCODED byte then percent_encode_byte byte else byte ∷ []) _
    ∙ or_from _ _ (encoded_has_no_sign byte (should_percent_encode ENCODED byte) (is_sign byte) refl refl) (query_has_no_sign bytes)

pub piece_rowless : EscapedHaveNoMarkup → (piece : Piece) → IsRowlessPiece piece → IsRowless (piece_html piece)
piece_rowless law (Markup markup) is = is
piece_rowless law (Text text) is =
    plain_rowless (html_of text.now) (markup_signs (html_of text.now) (law (shown_text text.now)))
piece_rowless law (Query text) is = plain_rowless _ (query_has_no_sign text.now)
piece_rowless law (Number number) is = decimal_rowless number
piece_rowless law (Signed number) is = is

-- ---- what was added
pub nothing_added : (a : Option (List ℕ)) → AddsRowless a a
nothing_added None = tt
nothing_added (Some html) = record { html = []; is = sym (append-nil html); rowless = rowless_nil }

pub rowless_then : (a b c : Option (List ℕ)) → AddsRowless a b → AddsRowless b c → AddsRowless a c
rowless_then a b c p q =
    grows_then a b c
    (λ x y z f g. record {
      html = f.html ++ g.html;
      is = g.is ∙ ap (λ l. l ++ g.html) f.is ∙ append_assoc x f.html g.html;
      rowless = rowless_append f.html g.html f.rowless g.rowless;
    }) p q

pub html_added : (html : List ℕ) (a b : Option (List ℕ)) → IsRowless html → Adds html a b → AddsRowless a b
html_added html a None rowless adds = tt
html_added html None (Some new) rowless adds = absurd adds
html_added html (Some old) (Some new) rowless adds = record { html = html; is = adds; rowless = rowless }

-- one piece of markup
pub markup_added : (html : List ℕ) (a b : Option (List ℕ)) → IsRowless html → Adds (html ++ []) a b → AddsRowless a b
markup_added html a b rowless adds =
    html_added (html ++ []) a b (rowless_append html [] rowless rowless_nil) adds

pub piece_added : EscapedHaveNoMarkup → (piece : Piece) (a b : Option (List ℕ)) → IsRowlessPiece piece
    → Adds (piece_html piece ++ []) a b → AddsRowless a b
piece_added law piece a b rowless adds =
    markup_added (piece_html piece) a b (piece_rowless law piece rowless) adds

-- a page that begins so, with what was added
pub begun_then : (a b : Option (List ℕ)) → IfSome a IsRowless → AddsRowless a b → IfSome b IsRowless
begun_then a None rowless added = tt
begun_then None (Some new) rowless added = absurd added
begun_then (Some old) (Some new) rowless added =
    subst IsRowless (sym added.is) (rowless_append old added.html rowless added.rowless)

pub begun_with : (a : Option (List ℕ)) (html : List ℕ) → a ≡ Some [] → IsRowless html → (b : Option (List ℕ))
    → Adds html a b → IfSome b IsRowless
begun_with a html is rowless b adds =
    begun_then a b (subst (λ (o : Option (List ℕ)). IfSome o IsRowless) (sym is) rowless_nil) (html_added html a b rowless adds)

-- ---- the places of a template
found_rowless : (template : List ℕ) (found : Option (Bor (List ℕ) × Bor (List ℕ))) (whole nothing : Bor (List ℕ))
    → IsRowless template → whole.now ≡ template → nothing.now ≡ []
    → MatchOption found ((xs ys : List ℕ) → template ≢ xs ++ (codes "{}" ++ ys))
    (λ x. template ≡ x.0.now ++ (codes "{}" ++ x.1.now))
    → IsRowless (unwrap_or found (whole, nothing)).0.now × IsRowless (unwrap_or found (whole, nothing)).1.now
found_rowless template None whole nothing rowless w n split =
    (subst IsRowless (sym w) rowless, subst IsRowless (sym n) rowless_nil)
found_rowless template (Some x) whole nothing rowless w n split =
    parts_rowless x.0.now x.1.now (subst IsRowless split rowless)

pub place_added : (template : List ℕ) (found : Option (Bor (List ℕ) × Bor (List ℕ))) (whole nothing : Bor (List ℕ))
    (parts : Bor (List ℕ) × Bor (List ℕ)) (a b : Option (List ℕ)) → parts ≡ unwrap_or found (whole, nothing)
    → whole.now ≡ template → nothing.now ≡ []
    → MatchOption found ((xs ys : List ℕ) → template ≢ xs ++ (codes "{}" ++ ys))
    (λ x. template ≡ x.0.now ++ (codes "{}" ++ x.1.now))
    → Adds (parts.0.now ++ []) a b → IsRowless template → AddsRowless a b × IsRowless parts.1.now
place_added template found whole nothing parts a b is w n split adds rowless =
    let both = found_rowless template found whole nothing rowless w n split in (
      markup_added parts.0.now a b (subst (λ (p : Bor (List ℕ) × Bor (List ℕ)). IsRowless p.0.now) (sym is) both.0) adds,
      subst (λ (p : Bor (List ℕ) × Bor (List ℕ)). IsRowless p.1.now) (sym is) both.1,
    )

pub no_piece : All IsRowlessPiece []
no_piece = All-nil IsRowlessPiece

pub one_piece : (a : Piece) → IsRowlessPiece a → All IsRowlessPiece (a ∷ [])
one_piece a p = All-cons IsRowlessPiece a [] p no_piece

pub two_pieces : (a b : Piece) → IsRowlessPiece a → IsRowlessPiece b → All IsRowlessPiece (a ∷ b ∷ [])
two_pieces a b p q = All-cons IsRowlessPiece a (b ∷ []) p (one_piece b q)

pub three_pieces : (a b c : Piece) → IsRowlessPiece a → IsRowlessPiece b → IsRowlessPiece c
    → All IsRowlessPiece (a ∷ b ∷ c ∷ [])
three_pieces a b c p q r = All-cons IsRowlessPiece a (b ∷ c ∷ []) p (two_pieces b c q r)

-- ---- names
pub reason_rowless : (reason : Reason) → IsRowless (reason_name reason)
unfolding begun_in
reason_rowless Require = refl
reason_rowless Reject = refl
reason_rowless Cycle = refl
reason_rowless Unknown = refl
reason_rowless Dependency = refl

pub kind_rowless : (kind : Shown) → IsRowless (shown_name kind)
unfolding begun_in
kind_rowless shown.Open = refl
kind_rowless shown.Ready = refl
kind_rowless shown.All = refl

-- how each page ends
pub end_rowless : IsRowless (codes "</main>\n</body>\n</html>\n")
unfolding begun_in
end_rowless = refl
