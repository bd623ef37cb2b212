-- The HTML of pieces: markup as it is, texts escaped, and numbers in decimal.
use Rattle.std.specs.Prelude.{ℕ, List, decimal}
use Rattle.std.specs.Fmt.{signed_decimal}
use Rattle.percent_encoding.specs.Percent.{percent_encode}
use Rattle.markup_text.specs.declared.piece.Piece.{Piece}
use Rattle.markup_text.specs.declared.piece.Piece.TheVariants.{Markup, Text, Query, Number, Signed}
use Rattle.markup_text.specs.declared.markup.TheConstants.{ENCODED}
use Rattle.markup_text.specs.Html.{html_of}

abbrev pub piece_html : Piece → List ℕ
piece_html (Markup markup) = markup.now
piece_html (Text text) = html_of text.now
piece_html (Query text) = percent_encode ENCODED text.now
piece_html (Number number) = decimal number
piece_html (Signed number) = signed_decimal number
