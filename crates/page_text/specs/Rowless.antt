-- HTML in which no row of a table begins: `<tr` occurs nowhere in it.
use Rattle.std.specs.Prelude.{◌≡◌, ◌≢◌, ℕ, List, [], ◌∷◌, ◌++◌, ◌==◌, Option, codes, if◌then◌else◌}
use Rattle.std.specs.Fmt.{signed_decimal}
use Rattle.markup_text.specs.Growing.{Grows}
use Rattle.markup_text.specs.declared.piece.Piece.{Piece}
use Rattle.markup_text.specs.declared.piece.Piece.TheVariants.{Markup, Text, Query, Number, Signed}

abbrev pub LacksRows : List ℕ → Type 0
LacksRows html = (before after : List ℕ) → html ≢ before ++ (codes "<tr" ++ after)

-- how much of `<tr` the HTML ends with so far, or that all of it occurred
pub data Begun : Type 0 where
  NotBegun : Begun
  HasSign : Begun
  HasLetter : Begun
  IsRow : Begun

abbrev pub begun_anew : ℕ → Begun
begun_anew byte = if byte == 60 then HasSign else NotBegun

-- after one more byte; a place of a template, `{}`, behind a part of `<tr` may be filled with the rest of it
abbrev pub begun_by : Begun → ℕ → Begun
begun_by NotBegun byte = begun_anew byte
begun_by HasSign byte = if byte == 116 then HasLetter else (if byte == 123 then IsRow else begun_anew byte)
begun_by HasLetter byte = if byte == 114 then IsRow else (if byte == 123 then IsRow else begun_anew byte)
begun_by IsRow byte = IsRow

unfoldable pub begun_in : Begun → List ℕ → Begun
begun_in begun [] = begun
begun_in begun (byte ∷ bytes) = begun_in (begun_by begun byte) bytes

-- no row begins in it, and none with its end
abbrev pub IsRowless : List ℕ → Type 0
IsRowless html = begun_in NotBegun html ≡ NotBegun

-- a text is escaped, and a query is percent-encoded
abbrev pub IsRowlessPiece : Piece → Type 0
IsRowlessPiece (Markup markup) = IsRowless markup.now
IsRowlessPiece (Text text) = Unit {0}
IsRowlessPiece (Query text) = Unit {0}
IsRowlessPiece (Number number) = Unit {0}
IsRowlessPiece (Signed number) = IsRowless (signed_decimal number)

-- HTML without a row was added
pub record LengthensRowless (old new : List ℕ) : Type 0 where
  pub html : List ℕ
  pub is : new ≡ old ++ html
  pub rowless : IsRowless html

abbrev pub AddsRowless : Option (List ℕ) → Option (List ℕ) → Type 0
AddsRowless = Grows LengthensRowless
