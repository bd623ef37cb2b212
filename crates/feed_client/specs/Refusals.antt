-- What a session answers to a body.
use Rattle.std.specs.Prelude.{◌≡◌, ◌++◌, ◌∷◌, [], ℕ, List, Result, Ok, Err, codes}
use Rattle.review_ops.specs.Timestamp.{IsNumbered, Timestamp, timestamp_text}
use Rattle.feed_client.specs.declared.intake.Refusal.{Refusal}
use Rattle.feed_client.specs.declared.intake.Refusal.TheVariants.{NoMemory, BadText, BadBody, ClockSpent, Closed}
use Rattle.feed_client.specs.declared.intake.IntakeFault.{IntakeFault}
use Rattle.feed_client.specs.declared.intake.IntakeFault.TheVariants.{Refused}
use Rattle.feed_client.specs.declared.intake.IntakeFault.TheVariants as fault

abbrev pub text_of : Refusal → List ℕ
text_of NoMemory = codes "5 NoMemory"
text_of BadText = codes "7 BadText"
text_of BadBody = codes "8 BadBody"
text_of ClockSpent = codes "9 ClockSpent"
text_of Closed = codes "10 Closed"

-- who may only read is answered so to each body
abbrev pub not_allowed_text : List ℕ
not_allowed_text = codes "11 NotAllowed"

-- each of the refusals
abbrev pub all : List Refusal
all = NoMemory ∷ BadText ∷ BadBody ∷ ClockSpent ∷ Closed ∷ []

abbrev pub ok_word : List ℕ
ok_word = codes "ok "

abbrev pub no_word : List ℕ
no_word = codes "no "

-- of the text after `no` the refusal is read that it names, or the end where it names none
abbrev pub IsRefusalText : List ℕ → IntakeFault → Type 0
IsRefusalText text (Refused refusal) = text ≡ text_of refusal
IsRefusalText text fault.NotAllowed = text ≡ not_allowed_text
IsRefusalText text fault.Ended = (¬ (text ≡ not_allowed_text)) × ((refusal : Refusal) → ¬ (text ≡ text_of refusal))
IsRefusalText text fault.NoEnd = ⊥
IsRefusalText text fault.NoMemory = ⊥

-- no session answers this line
abbrev pub AnswersNothing : List ℕ → Type 0
AnswersNothing line = (¬ (line ≡ no_word ++ not_allowed_text))
    × ((refusal : Refusal) → ¬ (line ≡ no_word ++ text_of refusal))
    × ((stamp : Timestamp) → IsNumbered stamp → ¬ (line ≡ ok_word ++ timestamp_text stamp))

-- what is read of a line: a stamp or a refusal where the line is that of just it, and the end where it is no answer;
-- where memory is refused nothing is known of the line
abbrev pub IsTakeAnswer : List ℕ → Result Timestamp IntakeFault → Type 0
IsTakeAnswer line (Ok stamp) = line ≡ ok_word ++ timestamp_text stamp
IsTakeAnswer line (Err (Refused refusal)) = line ≡ no_word ++ text_of refusal
IsTakeAnswer line (Err fault.NotAllowed) = line ≡ no_word ++ not_allowed_text
IsTakeAnswer line (Err fault.Ended) = AnswersNothing line
IsTakeAnswer line (Err fault.NoEnd) = ⊥
IsTakeAnswer line (Err fault.NoMemory) = Unit {0}
