-- How lines are sealed: enciphered, then tagged, then written as base64.
use Rattle.std.specs.Prelude.{◌≡◌, ◌<◌, ◌≤◌, ◌≢◌, ℕ, ◌+◌, ◌-◌, ◌^◌, List, ◌++◌, length}
use Rattle.std.specs.Int.{w64, to_be_bytes}
use Rattle.base64.specs.Engines.{standard}
use Rattle.base64.specs.GeneralPurpose.{encode_of, IsBytes}
use Rattle.keyed_digest.specs.Hmac.{hmac}
use Rattle.sealed_line.specs.Keystream.{crossed_under}
use Rattle.sealed_line.specs.declared.fault.SealFault.{SealFault}
use Rattle.sealed_line.specs.declared.fault.SealFault.TheVariants.{BadSeal, LongLine, Spent, NoMemory}

-- what seals the lines of one direction: the key of their tags, that of their cipher, and how many were sealed before
-- the next one
pub record Sealing : Type 0 where
  pub tags : List ℕ
  pub cipher : List ℕ
  pub count : ℕ

-- the cipher of a text, and the text of a cipher
abbrev pub crossed : Sealing → List ℕ → List ℕ
crossed s text = crossed_under s.cipher s.count text

-- the tag of a cipher: over the line's count in eight bytes, high byte first, and the cipher
abbrev pub tag_of : Sealing → List ℕ → List ℕ
tag_of s cipher = hmac s.tags (to_be_bytes w64 s.count ++ cipher)

-- a cipher as a line
abbrev pub sealed : Sealing → List ℕ → List ℕ
sealed s cipher = encode_of standard (cipher ++ tag_of s cipher)

abbrev pub after_line : Sealing → Sealing
after_line s = record s { count = s.count + 1 }

-- the most bytes of a line of a session, and the greatest count
abbrev pub most_line_bytes : ℕ
most_line_bytes = 524288

abbrev pub last_count : ℕ
last_count = 2 ^ 64 - 1

-- a line that no cipher seals to
abbrev pub IsNoSeal : Sealing → List ℕ → Type 0
IsNoSeal s line = (cipher : List ℕ) → IsBytes cipher → line ≢ sealed s cipher

-- why a line has no bytes
abbrev pub IsUndecoded : List ℕ → SealFault → Type 0
IsUndecoded line BadSeal = (body : List ℕ) → IsBytes body → line ≢ encode_of standard body
IsUndecoded line LongLine = ⊥
IsUndecoded line Spent = ⊥
IsUndecoded line NoMemory = Unit {0}

-- why a text isn't sealed
abbrev pub IsUnsealed : Sealing → List ℕ → SealFault → Type 0
IsUnsealed s text BadSeal = ⊥
IsUnsealed s text LongLine = most_line_bytes < length text
IsUnsealed s text Spent = (s.count ≡ last_count) × (length text ≤ most_line_bytes)
IsUnsealed s text NoMemory = Unit {0}

-- why a line isn't opened
abbrev pub IsUnopened : Sealing → List ℕ → SealFault → Type 0
IsUnopened s line BadSeal = IsNoSeal s line
IsUnopened s line LongLine = ⊥
IsUnopened s line Spent = s.count ≡ last_count
IsUnopened s line NoMemory = Unit {0}

-- the line is the seal of a cipher, and this is its text
pub record Opens (s : Sealing) (line text : List ℕ) : Type 0 where
  pub cipher : List ℕ
  pub bytes : IsBytes cipher
  pub is : line ≡ sealed s cipher
  pub text_is : text ≡ crossed s cipher
