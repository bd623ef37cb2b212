-- What the bytes of a source open to: the texts of the longest prefix of lines each of which is sealed under its count.
use Rattle.std.specs.Prelude.{◌≡◌, ℕ, ◌-◌, ◌==◌, ◌&&◌, Bool, true, false, if◌then◌else◌, List, [], ◌∷◌, ◌++◌, length, take, drop, Option, Some, None, option_map, option_and_then}
use Rattle.base64.specs.Engines.{standard}
use Rattle.base64.specs.GeneralPurpose.{decoded_of}
use Rattle.byte_ends.specs.Lines.{as_line}
use Rattle.sealed_line.specs.Sealing.{Sealing, after_line, crossed, tag_of}
use Rattle.sealed_ends.specs.Unread.{CountsOpenFault, IsUnreadSeal}
use Rattle.sealed_ends.specs.declared.fault.OpenFault.{OpenFault}
use Rattle.sealed_ends.specs.declared.source.SealedSource.{SealedSource}

abbrev pub alike : List ℕ → List ℕ → Bool
alike [] [] = true
alike [] (b ∷ right) = false
alike (a ∷ left) [] = false
alike (a ∷ left) (b ∷ right) = (a == b) && alike left right

-- the text of a cipher and a tag of this length, where the tag is that of the cipher
abbrev pub opened_text : Sealing → List ℕ → List ℕ → Option (List ℕ)
opened_text s cipher tag = if alike tag (tag_of s cipher) then Some (crossed s cipher) else None

abbrev pub opened_body : Sealing → List ℕ → Option (List ℕ)
opened_body s body = opened_text s (take (length body - 32) body) (drop (length body - 32) body)

-- the text of a line, where it is the seal of one
abbrev pub opened_line : Sealing → List ℕ → Option (List ℕ)
opened_line s line = option_and_then (opened_body s) (decoded_of standard line)

-- the byte before the first of these pieces, where there is one
abbrev pub put_first : ℕ → List (List ℕ) → List (List ℕ)
put_first byte [] = []
put_first byte (piece ∷ pieces) = (byte ∷ piece) ∷ pieces

-- the pieces of some bytes that end with an LF; what follows the last LF is none
unfoldable pub whole_lines : List ℕ → List (List ℕ)
whole_lines [] = []
whole_lines (byte ∷ bytes) = if byte == 10 then [] ∷ whole_lines bytes else put_first byte (whole_lines bytes)

-- a text's line and what follows, or nothing more
abbrev pub then_texts : Option (List ℕ) → List ℕ → List ℕ
then_texts None rest = []
then_texts (Some text) rest = as_line text ++ rest

-- the texts of lines up to the first that isn't sealed
unfoldable pub opened_texts : Sealing → List (List ℕ) → List ℕ
opened_texts s [] = []
opened_texts s (line ∷ lines) = then_texts (opened_line s line) (opened_texts (after_line s) lines)

abbrev pub opened : Sealing → List ℕ → List ℕ
opened s bytes = opened_texts s (whole_lines bytes)

-- what is left of a source: what is opened already, and what the bytes that are held, and come, open to
abbrev pub left_of : List ℕ → Sealing → List ℕ → Option (List ℕ) → Option (List ℕ)
left_of ready s held left = option_map (λ bytes. ready ++ opened s (held ++ bytes)) left

-- the source within, and what was read of it and isn't opened
abbrev pub source_within : {S : Type 0} → SealedSource S → S
source_within s = s.source

-- what opens the next line
abbrev pub opens_under : {S : Type 0} → SealedSource S → Sealing
opens_under s = s.seal

abbrev pub held_by : {S : Type 0} → SealedSource S → List ℕ
held_by s = s.held.items

-- why the last read that failed did
abbrev pub fault_by : {S : Type 0} → SealedSource S → Option OpenFault
fault_by s = s.fault

-- a read fails by this fault
pub record FailsBy {S : Type 0} (left : S → Option (List ℕ)) (failed : S → ℕ) (old new : SealedSource S) : Type 0 where
  pub fault : OpenFault
  pub is : fault_by new ≡ Some fault
  pub why : IsUnreadSeal new.seal new.held.items (left new.source) fault
  pub counted : CountsOpenFault (failed old.source) (failed new.source) fault

-- what is left, by what is left of the source within
abbrev pub left_by : {S : Type 0} → (S → Option (List ℕ)) → SealedSource S → Option (List ℕ)
left_by left s = left_of s.ready.items s.seal s.held.items (left s.source)

-- the reads that failed
abbrev pub failed_by : {S : Type 0} → SealedSource S → ℕ
failed_by s = s.failures
