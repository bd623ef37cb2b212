-- Values of footers that begin with a base of a gate and yet name no change. What footers are, and which change one
-- names, is said in footer_text.
use Rattle.std.specs.Prelude.{◌≡◌, ◌↔◌, ℕ, List, ◌++◌, Contains}
use Rattle.std.specs.Cmp.Lexicographic.{slice_cmp}
use Rattle.std.specs.List.Sorted.{IsStrictlySortedBy}
use Rattle.std.specs.Ordering.{nat_cmp}
use Rattle.std.specs.Str.{str_to_ascii_lowercase}
use Rattle.footer_text.specs.Lines.{IsFooter, lines_of}
use Rattle.footer_text.specs.Readings.{NamesChange}
use Rattle.gate_check.specs.Unused.{SomeIs}

-- the text begins with the start, whatever the case of its ASCII letters
abbrev pub BeginsLike : List ℕ → List ℕ → Type 0
BeginsLike start text =
    (rest : List ℕ) × (str_to_ascii_lowercase text ≡ str_to_ascii_lowercase start ++ rest)

-- the value begins with one of the bases, in any case, and yet names no change
abbrev pub IsNearMiss : List (List ℕ) → List ℕ → Type 0
IsNearMiss bases value = SomeIs (λ base. BeginsLike base value) bases × ((change : ℕ) → ¬ NamesChange bases value change)

-- the line is a footer with this value, and that is so; the message has such a line
abbrev pub LineMisses : List (List ℕ) → List ℕ → List ℕ → Type 0
LineMisses bases value line = IsFooter line value × IsNearMiss bases value

abbrev pub MessageMisses : List (List ℕ) → List ℕ → List ℕ → Type 0
MessageMisses bases value message = SomeIs (LineMisses bases value) (lines_of message)

-- these are just the values of such footers of the messages, in byte order, each once
pub record AreIgnored (bases messages values : List (List ℕ)) : Type 0 where
  pub in_order : IsStrictlySortedBy (slice_cmp nat_cmp) values
  pub each : (value : List ℕ) → Contains values value ↔ SomeIs (MessageMisses bases value) messages
