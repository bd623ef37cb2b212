-- A session: its lines are answered one after the other, until one ends it, or the source or the drain does.
use Rattle.std.specs.Prelude.{◌≡◌, ◌⊎◌, ◌≤◌, ℕ, Bool, true, false, List, [], ◌∷◌, ◌++◌, Option, Result, Ok, Err}
use Rattle.std.specs.Prelude.{flat_map, length}
use Rattle.std.specs.List.{AllByRecursion}
use Rattle.std.specs.Io.KnownBytes.{Consumes, IsAtEnd}
use Rattle.byte_ends.specs.Failures.{OneFailed}
use Rattle.byte_ends.specs.Lines.{as_line, without_cr}
use Rattle.byte_ends.specs.declared.faults.BytesFault.{BytesFault}
use Rattle.byte_ends.specs.declared.faults.BytesFault.TheVariants as bytes
use Rattle.line_reader.specs.Lines.{HasNoLf, IsTooLong, IsUnfinished}
use Rattle.gossip_line.specs.Answers.{Answers, AnswerIsCutShort, IsWritten, Sends}
use Rattle.gossip_line.specs.Texts.{SessionAnswer, bad_version, farewell, answer_text, long_line, next_of}
use Rattle.gossip_line.specs.declared.fault.LineFault.{LineFault}
use Rattle.gossip_line.specs.declared.fault.LineFault.TheVariants.{LongLine, BadVersion, ReadFault, WriteFault}
use Rattle.gossip_line.specs.declared.fault.LineFault.TheVariants.{NoMemory, BadAnswer, Closed, NotListed}
use Rattle.gossip_line.specs.declared.fault.LineFault.TheVariants.{FarAhead}
use Rattle.site_port.specs.Ports.{Call, Reply}

-- a line as it came, without its LF, and its answer
pub record Turn : Type 0 where
  pub piece : List ℕ
  pub answer : SessionAnswer

abbrev pub line_of : Turn → List ℕ
line_of turn = without_cr turn.piece

-- what was read of turns, and what was written
abbrev pub lines_of : List Turn → List ℕ
lines_of turns = flat_map (λ turn. as_line turn.piece) turns

abbrev pub texts_of : List Turn → List ℕ
texts_of turns = flat_map (λ turn. answer_text turn.answer) turns

-- the line is one, and not too long
pub record IsPiece (limit : ℕ) (piece : List ℕ) : Type 0 where
  pub plain : HasNoLf piece
  pub short : length piece ≤ limit

-- the turns are ones after which the session goes on
abbrev pub GoOn : ℕ → List Turn → Type 0
GoOn limit turns = AllByRecursion (λ turn. IsPiece limit turn.piece × (next_of turn.answer ≡ Ok true)) turns

-- whether no line was answered yet
abbrev pub is_none_yet : List Turn → Bool
is_none_yet [] = true
is_none_yet (turn ∷ turns) = false

-- what is known of a session's ends and its port, before it or after
pub record Moment (P : Type 0) : Type 0 where
  pub port : P
  -- the bytes that the source has left, and those that the drain took, where they are known
  pub left : Option (List ℕ)
  pub taken : Option (List ℕ)
  -- how many reads and writes have failed
  pub unread : ℕ
  pub unwritten : ℕ

module _ {P : Type 0} (gives : P → Call → Reply → P → Type 0) where
  -- the lines are answered one after the other, the first one as the first of a session where it is that
  abbrev pub Answered : Bool → P → List Turn → P → Type 0
  Answered first old [] new = new ≡ old
  Answered first old (turn ∷ turns) new =
      (mid : P) × Answers gives first old (line_of turn) turn.answer mid × Answered false mid turns new

  -- up to now these turns were taken, and these bytes are held that were read past them
  pub record IsTalk (limit : ℕ) (before now : Moment P) (turns : List Turn) (held : List ℕ) : Type 0 where
    pub came : Consumes before.left now.left (lines_of turns ++ held)
    pub answered : Answered true before.port turns now.port
    pub go_on : GoOn limit turns
    pub written : IsWritten (texts_of turns) before.taken now.taken before.unwritten now.unwritten
    pub none_unread : now.unread ≡ before.unread

  -- the rest of what was read begins with one more line, which is answered so
  pub record IsLast (limit : ℕ) (first : Bool) (old : P) (rest : List ℕ) (answer : SessionAnswer) (new : P) : Type 0 where
    pub piece : List ℕ
    pub later : List ℕ
    pub whole : rest ≡ as_line piece ++ later
    pub is : IsPiece limit piece
    pub answered : Answers gives first old (without_cr piece) answer new

  abbrev pub IsQuiet : Moment P → Moment P → Type 0
  IsQuiet mid after = (after.port ≡ mid.port) × (after.taken ≡ mid.taken) × (after.unwritten ≡ mid.unwritten)

  abbrev pub IsSent : List ℕ → Moment P → Moment P → Type 0
  IsSent text mid after = IsWritten text mid.taken after.taken mid.unwritten after.unwritten

  abbrev pub IsCut : List ℕ → Moment P → Moment P → Type 0
  IsCut text mid after = AnswerIsCutShort text mid.taken after.taken mid.unwritten after.unwritten

  -- how a session ends, after these turns and with this rest of what was read
  abbrev pub Ends : ℕ → ℕ → List Turn → Moment P → List ℕ → Moment P → Result (Unit {0}) LineFault → Type 0
  Ends limit most turns mid rest after (Ok done) =
      (IsUnfinished limit rest × IsAtEnd after.left × IsQuiet mid after)
      ⊎ (IsLast limit (is_none_yet turns) mid.port rest farewell after.port × IsSent (answer_text farewell) mid after)
  Ends limit most turns mid rest after (Err LongLine) =
      IsTooLong limit rest × (after.port ≡ mid.port) × IsSent long_line mid after
  Ends limit most turns mid rest after (Err BadVersion) =
      IsLast limit (is_none_yet turns) mid.port rest bad_version after.port × IsSent (answer_text bad_version) mid after
  Ends limit most turns mid rest after (Err ReadFault) =
      IsQuiet mid after × (OneFailed mid.unread after.unread ⊎ ((length turns ≡ most) × (after.unread ≡ mid.unread)))
  Ends limit most turns mid rest after (Err WriteFault) =
      ((answer : SessionAnswer) × IsLast limit (is_none_yet turns) mid.port rest answer after.port × IsCut (answer_text answer) mid after)
      ⊎ (IsTooLong limit rest × (after.port ≡ mid.port) × IsCut long_line mid after)
  Ends limit most turns mid rest after (Err NoMemory) = IsQuiet mid after
  Ends limit most turns mid rest after (Err BadAnswer) = ⊥
  Ends limit most turns mid rest after (Err Closed) = ⊥
  Ends limit most turns mid rest after (Err NotListed) = ⊥
  Ends limit most turns mid rest after (Err FarAhead) = ⊥

  -- a read failed only where that ends the session
  abbrev pub CountsReads : Moment P → Moment P → Result (Unit {0}) LineFault → Type 0
  CountsReads mid after (Err ReadFault) = Unit {0}
  CountsReads mid after result = after.unread ≡ mid.unread

  -- a session over lines of at most so many bytes, and at most so many lines: so many turns went on, and then it ended
  pub record Session (limit most : ℕ) (before after : Moment P) (result : Result (Unit {0}) LineFault) : Type 0 where
    pub turns : List Turn
    pub mid : Moment P
    pub held : List ℕ
    pub last : List ℕ
    pub talk : IsTalk limit before mid turns held
    pub few : length turns ≤ most
    pub came : Consumes mid.left after.left last
    pub ended : Ends limit most turns mid (held ++ last) after result
    pub counted : CountsReads mid after result

-- how a session ends where no line is read
abbrev pub EndsUnread : BytesFault → Option (List ℕ) → Option (List ℕ) → ℕ → ℕ → Result (Unit {0}) LineFault → Type 0
EndsUnread bytes.TooLong taken later failed failures result =
    Sends long_line (Err LongLine) taken later failed failures result
EndsUnread bytes.ReadFault taken later failed failures result =
    (result ≡ Err ReadFault) × (later ≡ taken) × (failures ≡ failed)
EndsUnread bytes.NoMemory taken later failed failures result =
    (result ≡ Err NoMemory) × (later ≡ taken) × (failures ≡ failed)
