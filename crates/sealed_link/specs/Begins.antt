-- How a sealed connection is dialed.
use Rattle.std.specs.Prelude.{◌≡◌, ◌≢◌, ◌⊎◌, ◌<◌, ℕ, List, [], ◌++◌, Option, Result, Ok, Err, IsErrAnd}
use Rattle.std.specs.Prelude.{MatchResult, codes, length, take, option_map}
use Rattle.std.specs.Io.KnownBytes.{Appends, IsAtEnd}
use Rattle.byte_ends.specs.Failures.{OneFailed}
use Rattle.byte_ends.specs.Lines.{as_line}
use Rattle.keyed_digest.specs.Hmac.{hmac}
use Rattle.line_reader.specs.Lines.{HasNoLf}
use Rattle.sealed_ends.specs.Opened.{left_of, opens_under, source_within}
use Rattle.sealed_ends.specs.Written.{drain_within, seals_under}
use Rattle.sealed_ends.specs.Links.{link_left, link_taken}
use Rattle.sealed_ends.specs.declared.link.LinkSource.{LinkSource}
use Rattle.sealed_ends.specs.declared.link.LinkSource.TheVariants as from
use Rattle.sealed_ends.specs.declared.link.LinkDrain.{LinkDrain}
use Rattle.sealed_ends.specs.declared.link.LinkDrain.TheVariants as to
use Rattle.sealed_line.specs.Greetings.{IsKeyAnswer, key_answer_text}
use Rattle.sealed_line.specs.Sealing.{Sealing}
use Rattle.sealed_line.specs.Keys.{AreKeys, both_lines, id_under}
use Rattle.sealed_line.specs.declared.greeting.Answer.{Answer}
use Rattle.sealed_line.specs.declared.greeting.Answer.TheVariants.{NoKey as HasNoKey, Proved}
use Rattle.sealed_line.specs.declared.greeting.Greeting.{Greeting}
use Rattle.sealed_line.specs.declared.greeting.Reply.{Reply}
use Rattle.sealed_line.specs.declared.keys.SessionKeys.{SessionKeys}
use Rattle.sealed_link.specs.declared.fault.DialFault.{DialFault}
use Rattle.sealed_link.specs.declared.fault.DialFault.TheVariants.{BadAnswer, NoKey, NoMemory, NotProved, ReadFault}
use Rattle.sealed_link.specs.declared.fault.DialFault.TheVariants.{WriteFault}

-- the first line of who has a secret
abbrev pub greeting_of : List ℕ → ℕ → List ℕ → Greeting
greeting_of secret site nonce = record { site = site; id = id_under secret; nonce = nonce }

-- what shows that who answers has the secret
abbrev pub proof_under : List ℕ → Greeting → Reply → List ℕ
proof_under secret greeting reply = hmac secret (codes "reviewgate proof" ++ both_lines greeting reply)

-- the most bytes of the line of who answers
abbrev pub answer_limit : ℕ
answer_limit = 256

abbrev pub IsNoKeyAnswer : List ℕ → Type 0
IsNoKeyAnswer line = (answer : Answer) → IsKeyAnswer answer → line ≢ key_answer_text answer

-- what the line of who answers comes to
abbrev pub Judges : List ℕ → Greeting → List ℕ → Result SessionKeys DialFault → Type 0
Judges secret greeting line (Ok keys) =
    (reply : Reply) × IsKeyAnswer (Proved reply keys.proof) × (line ≡ key_answer_text (Proved reply keys.proof))
    × AreKeys secret (both_lines greeting reply) keys
Judges secret greeting line (Err NoKey) = line ≡ key_answer_text HasNoKey
Judges secret greeting line (Err NotProved) =
    (reply : Reply) × (proof : List ℕ) × IsKeyAnswer (Proved reply proof)
    × (line ≡ key_answer_text (Proved reply proof))
    × (proof ≢ proof_under secret greeting reply)
Judges secret greeting line (Err BadAnswer) = IsNoKeyAnswer line
Judges secret greeting line (Err ReadFault) = ⊥
Judges secret greeting line (Err WriteFault) = ⊥
Judges secret greeting line (Err NoMemory) = Unit {0}

-- why no line came, where these bytes came and those are left: an end failed, or the line of who answers is too long,
-- or is cut off
abbrev pub IsUnanswered : List ℕ → Option (List ℕ) → DialFault → Type 0
IsUnanswered came left ReadFault = HasNoLf came
IsUnanswered came left WriteFault = came ≡ []
IsUnanswered came left BadAnswer = HasNoLf came × ((answer_limit < length came) ⊎ IsAtEnd left)
IsUnanswered came left NoKey = ⊥
IsUnanswered came left NotProved = ⊥
IsUnanswered came left NoMemory = Unit {0}

-- why the greeting isn't sent
abbrev pub IsUnsentGreeting : DialFault → Type 0
IsUnsentGreeting ReadFault = ⊥
IsUnsentGreeting WriteFault = Unit {0}
IsUnsentGreeting BadAnswer = ⊥
IsUnsentGreeting NoKey = ⊥
IsUnsentGreeting NotProved = ⊥
IsUnsentGreeting NoMemory = Unit {0}

-- what dialing answers, where these bytes came and those are left
abbrev pub Dials : List ℕ → Greeting → List ℕ → Option (List ℕ) → Result SessionKeys DialFault → Type 0
Dials secret greeting came left r =
    ((line : List ℕ) × (came ≡ as_line line) × HasNoLf line × Judges secret greeting line r)
    ⊎ IsErrAnd r (IsUnanswered came left)

-- how much of the greeting a drain took, where dialing is refused
abbrev pub GreetsPart : List ℕ → Option (List ℕ) → Option (List ℕ) → DialFault → Type 0
GreetsPart line old new WriteFault = (count : ℕ) × (count < length line) × Appends old new (take count line)
GreetsPart line old new NoMemory = (count : ℕ) × Appends old new (take count line)
GreetsPart line old new BadAnswer = Appends old new line
GreetsPart line old new NoKey = Appends old new line
GreetsPart line old new NotProved = Appends old new line
GreetsPart line old new ReadFault = Appends old new line

abbrev pub GreetsByKey : {T : Type 0} → List ℕ → Option (List ℕ) → Option (List ℕ) → Result T DialFault → Type 0
GreetsByKey line old new r = MatchResult r (λ _. Appends old new line) (GreetsPart line old new)

-- the source, or the drain, fails once where that is the refusal, and else never
abbrev pub CountsReadFault : ℕ → ℕ → DialFault → Type 0
CountsReadFault old new ReadFault = OneFailed old new
CountsReadFault old new WriteFault = new ≡ old
CountsReadFault old new BadAnswer = new ≡ old
CountsReadFault old new NoKey = new ≡ old
CountsReadFault old new NotProved = new ≡ old
CountsReadFault old new NoMemory = new ≡ old

abbrev pub CountsReads : {T : Type 0} → ℕ → ℕ → Result T DialFault → Type 0
CountsReads old new r = MatchResult r (λ _. new ≡ old) (CountsReadFault old new)

abbrev pub CountsDialFault : ℕ → ℕ → DialFault → Type 0
CountsDialFault old new WriteFault = OneFailed old new
CountsDialFault old new ReadFault = new ≡ old
CountsDialFault old new BadAnswer = new ≡ old
CountsDialFault old new NoKey = new ≡ old
CountsDialFault old new NotProved = new ≡ old
CountsDialFault old new NoMemory = new ≡ old

abbrev pub CountsWrites : {T : Type 0} → ℕ → ℕ → Result T DialFault → Type 0
CountsWrites old new r = MatchResult r (λ _. new ≡ old) (CountsDialFault old new)

-- the ends of who comes in, over these ends
abbrev pub OpensWith : {S : Type 0} → Sealing → S → LinkSource S → Type 0
OpensWith seal source (from.Plain _) = ⊥
OpensWith seal source (from.Sealed opens) = (source_within opens ≡ source) × (opens_under opens ≡ seal)

abbrev pub SealsWith : {D : Type 0} → Sealing → D → LinkDrain D → Type 0
SealsWith seal drain (to.Plain _) = ⊥
SealsWith seal drain (to.Sealed seals) = (drain_within seals ≡ drain) × (seals_under seals ≡ seal)

-- it writes lines that are sealed with the keys of who comes in, and reads those that are sealed with the keys of who
-- answers; none was written or read yet
pub record AreSealedEnds {S D : Type 0} (left : S → Option (List ℕ)) (taken : D → Option (List ℕ)) (keys : SessionKeys)
    (source : S) (drain : D)
    (reads : LinkSource S) (writes : LinkDrain D) : Type 0 where
  pub opens : OpensWith keys.outward source reads
  pub seals : SealsWith keys.inward drain writes
  pub nothing_read : link_left left reads ≡ left_of [] keys.outward [] (left source)
  pub nothing_written : link_taken taken writes ≡ option_map (λ _. []) (taken drain)

-- the same, for the ends of the connection
abbrev pub DialsEnds : {S D : Type 0} → (S → Option (List ℕ)) → (D → Option (List ℕ)) → List ℕ → Greeting → List ℕ → S
    → D
    → Result (LinkSource S × LinkDrain D) DialFault → Type 0
DialsEnds left taken secret greeting came source drain (Ok ends) =
    (keys : SessionKeys) × Dials secret greeting came (left source) (Ok keys)
    × AreSealedEnds left taken keys source drain ends.0 ends.1
DialsEnds left taken secret greeting came source drain (Err fault) =
    Dials secret greeting came (left source) (Err fault)
