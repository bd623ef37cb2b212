-- What is written to standard error.
use Rattle.std.specs.Prelude.{◌≡◌, ◌⊎◌, ◌<◌, ◌++◌, ℕ, List, Option, Result, Ok, Err, IfOk, MatchResult, codes, decimal}
use Rattle.std.specs.Prelude.{length, take}
use Rattle.std.proofs.Common.{inl, inr, subst}
use Rattle.std.specs.Io.KnownBytes.{Appends}
use Rattle.byte_ends.specs.Failures.{OneFailed}
use Rattle.refusal_line.specs.Line.{line_of}
use Rattle.refusal_line.specs.declared.part.Part.TheVariants.{Journal}
use Rattle.console.specs.Refusals.{refusal_line}
use Rattle.console.specs.declared.refusals.Refusal.TheVariants.{Memory}

-- standard error: the bytes that it has taken, if they are known, and how many writes failed
pub data ErrorOutput : Type 0 where
  error_output : Option (List ℕ) → ℕ → ErrorOutput

-- all of the text was written; or a call failed, and a proper prefix of it was
abbrev pub Shows : List ℕ → ErrorOutput → ErrorOutput → Type 0
Shows text (error_output old failed) (error_output new now_failed) =
    (Appends old new text × (now_failed ≡ failed))
    ⊎ ((count : ℕ) × (count < length text) × Appends old new (take count text) × OneFailed failed now_failed)

-- the same of a line, or of the line `NoMemory` if memory is refused for it
abbrev pub ShowsLine : List ℕ → ErrorOutput → ErrorOutput → Type 0
ShowsLine line old new = Shows line old new ⊎ Shows (refusal_line Memory) old new

-- how many bytes of a journal's torn line were left out
abbrev pub torn_line : ℕ → List ℕ
torn_line torn = line_of Journal 6 (codes "Torn " ++ decimal torn)

-- writing the line, or the line `NoMemory` in its place, meets `ShowsLine`
pub shows_line : {T E : Type 0} (bytes : T → List ℕ) (line : Result T E) (text : List ℕ) (old new : ErrorOutput)
    → IfOk line (λ made. bytes made ≡ text)
    → MatchResult line (λ made. Shows (bytes made) old new) (λ _. Shows (refusal_line Memory) old new)
    → ShowsLine text old new
shows_line bytes (Ok made) text old new is shown = inl (subst (λ one. Shows one old new) is shown)
shows_line bytes (Err refused) text old new is shown = inr shown
