-- Numbers in a request, and what it is to look for something.
use Rattle.std.specs.Prelude.{◌≡◌, ◌<◌, ◌^◌, ℕ, List, Option, None, Some, decimal}

-- an answer that is so, or none where nothing is
abbrev pub FindsNumber : {X : Type 0} → (X → Type 0) → Option X → Type 0
FindsNumber {X} IsSo None = (other : X) → ¬ IsSo other
FindsNumber IsSo (Some answer) = IsSo answer

-- the text is the number in decimal, with no zero in front and no sign, and the number has at most 32 bits
abbrev pub IsDecimal : List ℕ → ℕ → Type 0
IsDecimal text number = (number < 2 ^ 32) × (text ≡ decimal number)
