-- JSON that is being written: what was, or none once memory was refused for it.
use Rattle.std.specs.Fmt.{signed_decimal}
use Rattle.std.specs.Prelude.{◌≡◌, ℕ, List, [], ◌++◌, Option, None, Some, decimal}
use Rattle.json.specs.Print.{print}
use Rattle.json.specs.Token.{Token, begin_array, begin_object, boolean, end_array, end_object, key, number, string}
use Rattle.json.specs.Written.{Written}
use Rattle.json_line.specs.Tokens.{AddsTokens, number_if}
use Rattle.page_text.specs.declared.sheet.Mark.{Mark}
use Rattle.page_text.specs.declared.sheet.Mark.TheVariants as mark

abbrev pub mark_token : Mark → Token
mark_token mark.Open = begin_object
mark_token mark.Close = end_object
mark_token mark.OpenList = begin_array
mark_token mark.CloseList = end_array
mark_token (mark.Key name) = key name.now
mark_token (mark.Text text) = string text.now
mark_token (mark.Number value) = number (decimal value)
mark_token (mark.Signed value) = number (signed_decimal value)
mark_token (mark.NumberIf value) = number_if value
mark_token (mark.Flag value) = boolean value

-- unless memory was refused, just these tokens were added; and what was refused stays so
abbrev pub HasNoted : List Token → Option Written → Option Written → Type 0
HasNoted added old None = Unit {0}
HasNoted added None (Some new) = ⊥
HasNoted added (Some old) (Some new) = AddsTokens old new added

pub record NotesTokens (added : List Token) (old new : Option Written) : Type 0 where
  pub noted : HasNoted added old new

-- nothing was written yet
abbrev pub IsBegun : Option Written → Type 0
IsBegun None = ⊥
IsBegun (Some written) = (written.before ≡ []) × (written.tokens ≡ [])

-- the text is what was written
abbrev pub IsWholeSheet : Option Written → List ℕ → Type 0
IsWholeSheet None text = ⊥
IsWholeSheet (Some written) text = text ≡ written.before ++ print written.tokens
