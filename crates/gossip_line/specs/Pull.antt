-- A pull: in each round the sink's front is written, a whole answer is read, and its operations are handed to the sink.
use Rattle.std.specs.Prelude.{◌≡◌, ◌≢◌, ◌⊎◌, ◌≤◌, ◌<◌, ◌+◌, ℕ, Bool, true, false, List, [], ◌∷◌, ◌++◌, Option, Result, Ok}
use Rattle.std.specs.Prelude.{Err, codes, flat_map, length, map, string_bytes, sum_by, take, if◌then◌else◌}
use Rattle.std.specs.List.{AllByRecursion}
use Rattle.std.specs.Io.KnownBytes.{Appends, Consumes, IsAtEnd}
use Rattle.byte_ends.specs.Failures.{OneFailed}
use Rattle.byte_ends.specs.Lines.{as_line, without_cr}
use Rattle.gossip_line.specs.Answers.{AnswerIsCutShort, IsWritten}
use Rattle.gossip_line.specs.Commands.{BeginsLine, Follows, front_word, version_word}
use Rattle.gossip_line.specs.Session.{IsPiece, Moment}
use Rattle.gossip_line.specs.Texts.{hello}
use Rattle.gossip_line.specs.declared.fault.LineFault.{LineFault}
use Rattle.gossip_line.specs.declared.fault.LineFault.TheVariants.{LongLine, BadVersion, ReadFault, WriteFault}
use Rattle.gossip_line.specs.declared.fault.LineFault.TheVariants.{NoMemory, BadAnswer, Closed, NotListed}
use Rattle.gossip_line.specs.declared.fault.LineFault.TheVariants.{FarAhead}
use Rattle.gossip_line.specs.declared.pull.Handed.{Handed}
use Rattle.gossip_line.specs.declared.pull.Pulled.{Pulled}
use Rattle.line_reader.specs.Lines.{BeginsWithLine, IsTooLong, IsUnfinished, Reading}
use Rattle.op_text.specs.Front.{front_text}
use Rattle.op_text.specs.Spelling.{SpellsOperation}
use Rattle.op_text.specs.declared.fault.OpTextFault.{OpTextFault}
use Rattle.op_text.specs.declared.fault.OpTextFault.TheVariants as text
use Rattle.replica_core.specs.Front.{Reaches}
use Rattle.replica_core.specs.declared.missing.Missing.{Missing}
use Rattle.review_ops.specs.Operation.{Operation}
use Rattle.site_port.specs.Sinks.{Offer, Uptake, fronts, hands, reached, took, declined}
use Rattle.site_port.specs.declared.fault.SinkFault.{SinkFault}
use Rattle.site_port.specs.declared.fault.SinkFault.TheVariants as sink

-- ---- one answer

abbrev pub SaysOperation : List ℕ → Operation → Type 0
SaysOperation line op = (text : List ℕ) × Follows (codes "op ") line text × SpellsOperation text op

-- the line after an answer's operations says whether others are left
abbrev pub rest_word : Bool → List ℕ
rest_word more = if more then codes "more" else codes "done"

-- a line of an operation as it came, without its LF, and what it says
pub record OperationLine : Type 0 where
  pub piece : List ℕ
  pub op : Operation

-- a round: the front that was written, and the answer that was read
pub record Round : Type 0 where
  pub front : Reaches
  pub lines : List OperationLine
  pub last : List ℕ
  pub more : Bool

abbrev pub ops_in : List OperationLine → List Operation
ops_in lines = map (λ line. line.op) lines

abbrev pub bytes_in : List OperationLine → List ℕ
bytes_in lines = flat_map (λ line. as_line line.piece) lines

-- what was read of a round, and what was written
abbrev pub answer_in : Round → List ℕ
answer_in round = bytes_in round.lines ++ as_line round.last

abbrev pub front_line : Reaches → List ℕ
front_line front = as_line (front_word ++ front_text front)

abbrev pub AreOperations : ℕ → List OperationLine → Type 0
AreOperations limit lines =
    AllByRecursion (λ line. IsPiece limit line.piece × SaysOperation (without_cr line.piece) line.op) lines

-- an answer is whole: at most 256 lines of operations, and then one that says whether others are left
pub record IsWhole (limit : ℕ) (lines : List OperationLine) (last : List ℕ) (more : Bool) : Type 0 where
  pub operations : AreOperations limit lines
  pub few : length lines ≤ 256
  pub ends : IsPiece limit last
  pub says : without_cr last ≡ rest_word more

abbrev pub IsWholeRound : ℕ → Round → Type 0
IsWholeRound limit round = IsWhole limit round.lines round.last round.more

-- the rounds, of which each but the last reports that others are left, and the last one reports this
abbrev pub EndWith : List Round → Bool → Type 0
EndWith [] more = ⊥
EndWith (round ∷ []) more = round.more ≡ more
EndWith (round ∷ next ∷ rounds) more = (round.more ≡ true) × EndWith (next ∷ rounds) more

-- each of the rounds reported that others are left
abbrev pub GoOn : List Round → Type 0
GoOn rounds = AllByRecursion (λ round. round.more ≡ true) rounds

-- the line of the front in the last of the rounds, if there is one
abbrev pub last_asked : List Round → List ℕ
last_asked [] = []
last_asked (round ∷ []) = front_line round.front
last_asked (round ∷ next ∷ rounds) = last_asked (next ∷ rounds)

-- each of the rounds asked with another front than the one before it
abbrev pub AskAnew : List Round → Type 0
AskAnew [] = Unit {0}
AskAnew (round ∷ []) = Unit {0}
AskAnew (round ∷ next ∷ rounds) = (front_line next.front ≢ front_line round.front) × AskAnew (next ∷ rounds)

-- all but the last of the rounds asked anew, and the last one reported that nothing is left, or asked with the same front
-- as the one before it
pub record EndWithoutNews (rounds : List Round) (more : Bool) : Type 0 where
  pub before : List Round
  pub final : Round
  pub are : rounds ≡ before ++ final ∷ []
  pub anew : AskAnew before
  pub why : (more ≡ false) ⊎ (front_line final.front ≡ last_asked before)

-- the rounds after which a pull ends: the last one brought nothing that calls for another; or all of them asked anew, and
-- they are as many as may be
abbrev pub AreAll : ℕ → List Round → Bool → Type 0
AreAll most rounds more = EndWithoutNews rounds more ⊎ (AskAnew rounds × (length rounds ≡ most))

-- how a fault is counted, of reads and of writes: each of the two by its own fault alone
abbrev pub CountsEnds : (unread reads unwritten writes : ℕ) → LineFault → Type 0
CountsEnds unread reads unwritten writes ReadFault = OneFailed unread reads × (writes ≡ unwritten)
CountsEnds unread reads unwritten writes WriteFault = (reads ≡ unread) × OneFailed unwritten writes
CountsEnds unread reads unwritten writes fault = (reads ≡ unread) × (writes ≡ unwritten)

-- how a pull fails where its sink does
abbrev pub fault_of : SinkFault → LineFault
fault_of sink.NoMemory = NoMemory
fault_of sink.Closed = Closed
fault_of sink.NotListed = NotListed
fault_of sink.FarAhead = FarAhead

-- ---- reading

-- why a line or an answer isn't read
abbrev pub IsReadingFault : LineFault → Type 0
IsReadingFault LongLine = Unit {0}
IsReadingFault ReadFault = Unit {0}
IsReadingFault NoMemory = Unit {0}
IsReadingFault BadAnswer = Unit {0}
IsReadingFault fault = ⊥

abbrev pub CountsReading : {T : Type 0} → ℕ → ℕ → Result T LineFault → Type 0
CountsReading unread reads (Err ReadFault) = OneFailed unread reads
CountsReading unread reads result = reads ≡ unread

-- a line has to come; where the bytes end before its LF, or it is too long, that is answered
abbrev pub Awaits : Reading → List ℕ → Result (Unit {0}) LineFault → Reading → Type 0
Awaits old came (Ok done) new =
    (piece : List ℕ) × BeginsWithLine old.limit (old.held ++ came) piece new.held × (new.line ≡ without_cr piece)
Awaits old came (Err LongLine) new = IsTooLong old.limit (old.held ++ came)
Awaits old came (Err BadAnswer) new = IsUnfinished old.limit (old.held ++ came)
Awaits old came (Err fault) new = IsReadingFault fault

-- a line that can't be part of an answer, after so many operations
pub record IsNoAnswerLine (count : ℕ) (line : List ℕ) : Type 0 where
  pub rest : (more : Bool) → line ≢ rest_word more
  pub operation : (count ≡ 256) ⊎ ((op : Operation) → ¬ SaysOperation line op)

-- why an answer isn't whole, after so many lines of operations and with this rest of what was read
abbrev pub Breaks : ℕ → ℕ → List ℕ → Option (List ℕ) → LineFault → Type 0
Breaks limit count rest left LongLine = IsTooLong limit rest
Breaks limit count rest left BadAnswer =
    (IsUnfinished limit rest × IsAtEnd left) ⊎ ((piece : List ℕ) × (later : List ℕ) × BeginsWithLine limit rest piece later × IsNoAnswerLine count (without_cr piece))
Breaks limit count rest left ReadFault = Unit {0}
Breaks limit count rest left NoMemory = Unit {0}
Breaks limit count rest left fault = ⊥

pub record BreaksPull (limit : ℕ) (bytes : List ℕ) (left : Option (List ℕ)) (fault : LineFault) : Type 0 where
  pub lines : List OperationLine
  pub rest : List ℕ
  pub operations : AreOperations limit lines
  pub whole : bytes ≡ bytes_in lines ++ rest
  pub breaks : Breaks limit (length lines) rest left fault

-- why the text of an operation isn't read
abbrev pub unread_fault : OpTextFault → LineFault
unread_fault text.NoMemory = NoMemory
unread_fault fault = BadAnswer

abbrev pub IsUnspelled : List ℕ → LineFault → Type 0
IsUnspelled spelling BadAnswer = (op : Operation) → ¬ SpellsOperation spelling op
IsUnspelled spelling NoMemory = Unit {0}
IsUnspelled spelling fault = ⊥

-- why the line of an operation isn't taken
abbrev pub IsNoAnswer : List ℕ → LineFault → Type 0
IsNoAnswer line BadAnswer = (op : Operation) → ¬ SaysOperation line op
IsNoAnswer line NoMemory = Unit {0}
IsNoAnswer line fault = ⊥

-- an answer is read whole, or not at all
abbrev pub ReadsAnswer : {A : Type 0} → Reading → List ℕ → Option (List ℕ) → Result (Missing A) LineFault → Reading
    → Type 0
ReadsAnswer old came left (Ok missing) new =
    (lines : List OperationLine) × (last : List ℕ) × IsWhole old.limit lines last missing.more
    × (missing.ops.items ≡ ops_in lines)
    × (old.held ++ came ≡ (bytes_in lines ++ as_line last) ++ new.held)
ReadsAnswer old came left (Err fault) new = BreaksPull old.limit (old.held ++ came) left fault

-- the line of the front has more bytes before its LF than this
abbrev pub IsOverlong : ℕ → Reaches → Type 0
IsOverlong limit front = limit + 1 < length (front_line front)

-- the front's line is written; or it is too long, or memory is refused for it, before its first byte
abbrev pub SendsFront : {T : Type 0} → ℕ → Reaches → Option (List ℕ) → Option (List ℕ) → ℕ → ℕ → Result T LineFault
    → Type 0
SendsFront limit front taken later failed failures (Ok done) = IsWritten (front_line front) taken later failed failures
SendsFront limit front taken later failed failures (Err WriteFault) =
    AnswerIsCutShort (front_line front) taken later failed failures
SendsFront limit front taken later failed failures (Err NoMemory) = (later ≡ taken) × (failures ≡ failed)
SendsFront limit front taken later failed failures (Err LongLine) =
    IsOverlong limit front × (later ≡ taken) × (failures ≡ failed)
SendsFront limit front taken later failed failures (Err fault) = ⊥

-- why the version isn't named back
abbrev pub IsUngreeted : ℕ → List ℕ → Option (List ℕ) → LineFault → Type 0
IsUngreeted limit bytes left LongLine = IsTooLong limit bytes
IsUngreeted limit bytes left BadVersion =
    (piece : List ℕ) × (later : List ℕ) × BeginsWithLine limit bytes piece later
    × BeginsLine version_word (without_cr piece) × (without_cr piece ≢ hello)
IsUngreeted limit bytes left BadAnswer =
    (IsUnfinished limit bytes × IsAtEnd left) ⊎ ((piece : List ℕ) × (later : List ℕ) × BeginsWithLine limit bytes piece later × (¬ BeginsLine version_word (without_cr piece)))
IsUngreeted limit bytes left Closed = ⊥
IsUngreeted limit bytes left NotListed = ⊥
IsUngreeted limit bytes left FarAhead = ⊥
IsUngreeted limit bytes left fault = Unit {0}

-- what was written of the version where it isn't named back: all of its line; where writing failed, a proper prefix;
-- where memory was refused, all or nothing
abbrev pub Hails : Option (List ℕ) → Option (List ℕ) → LineFault → Type 0
Hails taken later WriteFault =
    (count : ℕ) × (count < length (as_line hello)) × Appends taken later (take count (as_line hello))
Hails taken later NoMemory = (later ≡ taken) ⊎ Appends taken later (as_line hello)
Hails taken later fault = Appends taken later (as_line hello)

-- the version is written, and the line that comes first has to name it
abbrev pub Greets : Reading → List ℕ → Option (List ℕ) → Option (List ℕ) → Option (List ℕ)
    → (unread reads unwritten writes : ℕ) → Result (Unit {0}) LineFault → Reading → Type 0
Greets old came left taken later unread reads unwritten writes (Ok done) new =
    (greeting : List ℕ) × BeginsWithLine old.limit (old.held ++ came) greeting new.held × (without_cr greeting ≡ hello)
    × IsWritten (as_line hello) taken later unwritten writes × (reads ≡ unread)
Greets old came left taken later unread reads unwritten writes (Err fault) new =
    CountsEnds unread reads unwritten writes fault × IsUngreeted old.limit (old.held ++ came) left fault
    × Hails taken later fault

-- ---- all rounds, over any sink, which takes the place of the port
module _ {K : Type 0} (sinks : K → Offer → Uptake → K → Type 0) where
  -- the sink says its front, and takes the operations of the whole answer to it
  abbrev pub Takes : K → Round → K → Type 0
  Takes old round new =
      (mid : K) × sinks old fronts (reached round.front) mid × sinks mid (hands (ops_in round.lines)) took new

  abbrev pub TakesAll : K → List Round → K → Type 0
  TakesAll old [] new = new ≡ old
  TakesAll old (round ∷ rounds) new = (mid : K) × Takes old round mid × TakesAll mid rounds new

  -- up to now these rounds were whole, and these bytes are held that were read past them
  pub record IsPull (limit : ℕ) (before now : Moment K) (greeting : List ℕ) (rounds : List Round) (held : List ℕ) : Type 0 where
    pub greeted : without_cr greeting ≡ hello
    pub came : Consumes before.left now.left ((as_line greeting ++ flat_map answer_in rounds) ++ held)
    pub whole : AllByRecursion (IsWholeRound limit) rounds
    pub taken : TakesAll before.port rounds now.port
    pub written : IsWritten (as_line hello ++ flat_map (λ round. front_line round.front) rounds) before.taken now.taken before.unwritten now.unwritten
    pub none_unread : now.unread ≡ before.unread

  -- the sink declined to say its front, and nothing was written; or it declined to take the operations of a whole
  -- answer that was read
  abbrev pub IsDeclined : ℕ → Moment K → List ℕ → SinkFault → Moment K → Type 0
  IsDeclined limit mid held why after =
      (sinks mid.port fronts (declined why) after.port × (after.taken ≡ mid.taken))
      ⊎ ((round : Round) × (came : List ℕ) × (rest : List ℕ) × (late : K) × IsWholeRound limit round × Consumes mid.left after.left came × (held ++ came ≡ answer_in round ++ rest)
      × sinks mid.port fronts (reached round.front) late
      × sinks late (hands (ops_in round.lines)) (declined why) after.port
      × Appends mid.taken after.taken (front_line round.front))

  -- the sink answered its front, which was written, and the answer isn't whole
  abbrev pub IsCutOff : ℕ → Moment K → List ℕ → LineFault → Moment K → Type 0
  IsCutOff limit mid held fault after =
      (front : Reaches) × (came : List ℕ) × sinks mid.port fronts (reached front) after.port
      × Consumes mid.left after.left came × BreaksPull limit (held ++ came) after.left fault
      × Appends mid.taken after.taken (front_line front)

  -- the sink answered its front, and nothing of it was written; or a proper prefix of its line was written, and then a
  -- write failed, and nothing more was read
  abbrev pub IsUnasked : Moment K → Moment K → Type 0
  IsUnasked mid after = (front : Reaches) × sinks mid.port fronts (reached front) after.port × (after.taken ≡ mid.taken)

  abbrev pub IsUnwritten : Moment K → Moment K → Type 0
  IsUnwritten mid after =
      (front : Reaches) × sinks mid.port fronts (reached front) after.port × (after.left ≡ mid.left)
      × AnswerIsCutShort (front_line front) mid.taken after.taken mid.unwritten after.unwritten

  -- the sink answered its front, whose line is too long, and nothing was written or read
  abbrev pub IsUnsaid : ℕ → Moment K → Moment K → Type 0
  IsUnsaid limit mid after =
      (front : Reaches) × sinks mid.port fronts (reached front) after.port × IsOverlong limit front
      × (after.taken ≡ mid.taken) × (after.left ≡ mid.left)

  -- what is left of the sink, and what was written, where a round isn't whole
  abbrev pub Leaves : ℕ → Moment K → List ℕ → LineFault → Moment K → Type 0
  Leaves limit mid held Closed after = IsDeclined limit mid held sink.Closed after
  Leaves limit mid held NotListed after = IsDeclined limit mid held sink.NotListed after
  Leaves limit mid held FarAhead after = IsDeclined limit mid held sink.FarAhead after
  Leaves limit mid held NoMemory after =
      IsUnasked mid after ⊎ (IsCutOff limit mid held NoMemory after ⊎ IsDeclined limit mid held sink.NoMemory after)
  Leaves limit mid held WriteFault after = IsUnwritten mid after
  Leaves limit mid held ReadFault after = IsCutOff limit mid held ReadFault after
  Leaves limit mid held LongLine after = IsUnsaid limit mid after ⊎ IsCutOff limit mid held LongLine after
  Leaves limit mid held BadAnswer after = IsCutOff limit mid held BadAnswer after
  Leaves limit mid held BadVersion after = ⊥

  -- one round
  abbrev pub PullsRound : ℕ → Moment K → List ℕ → Result Handed LineFault → Moment K → List ℕ → Type 0
  PullsRound limit mid held (Ok handed) after later =
      (round : Round) × (came : List ℕ) × IsWholeRound limit round × Consumes mid.left after.left came
      × (held ++ came ≡ answer_in round ++ later) × Takes mid.port round after.port
      × IsWritten (front_line round.front) mid.taken after.taken mid.unwritten after.unwritten
      × (after.unread ≡ mid.unread)
      × (handed.count ≡ length round.lines) × (handed.more ≡ round.more)
      × (string_bytes handed.asked ≡ front_line round.front)
  PullsRound limit mid held (Err fault) after later =
      Leaves limit mid held fault after × CountsEnds mid.unread after.unread mid.unwritten after.unwritten fault

  -- a pull that ends well has written `quit` after the last round
  pub record PullsWell (limit most : ℕ) (before after : Moment K) (pulled : Pulled) : Type 0 where
    pub mid : Moment K
    pub greeting : List ℕ
    pub rounds : List Round
    pub held : List ℕ
    pub pull : IsPull limit before mid greeting rounds held
    pub quit : IsWritten (codes "quit\n") mid.taken after.taken mid.unwritten after.unwritten
    pub same : (after.port ≡ mid.port) × (after.left ≡ mid.left) × (after.unread ≡ mid.unread)
    pub counted : pulled.rounds ≡ length rounds
    pub few : length rounds ≤ most
    pub summed : pulled.taken ≡ sum_by (λ round. length round.lines) rounds
    pub ends : EndWith rounds pulled.more
    pub all : AreAll most rounds pulled.more

  -- after the last round a proper prefix of `quit` was written, and then a write failed
  pub record IsUnquit (most : ℕ) (mid : Moment K) (rounds : List Round) (fault : LineFault) (after : Moment K) : Type 0 where
    pub fault_is : fault ≡ WriteFault
    pub cut : AnswerIsCutShort (codes "quit\n") mid.taken after.taken mid.unwritten after.unwritten
    pub same : (after.port ≡ mid.port) × (after.left ≡ mid.left)
    pub more : Bool
    pub ends : EndWith rounds more
    pub all : AreAll most rounds more

  -- how a pull fails after its whole rounds: in the next one, if each of them reported that others are left and asked
  -- anew, or at `quit`
  abbrev pub Stops : ℕ → ℕ → Moment K → List Round → List ℕ → LineFault → Moment K → Type 0
  Stops limit most mid rounds held fault after =
      (GoOn rounds × AskAnew rounds × (length rounds < most) × Leaves limit mid held fault after)
      ⊎ IsUnquit most mid rounds fault after

  -- a pull that fails has handed over the operations of the whole answers before, and nothing more
  abbrev pub Fails : ℕ → ℕ → Moment K → Moment K → LineFault → Type 0
  Fails limit most before after fault =
      CountsEnds before.unread after.unread before.unwritten after.unwritten fault
      × (((after.port ≡ before.port) × (came : List ℕ) × Consumes before.left after.left came × IsUngreeted limit came after.left fault
      × Hails before.taken after.taken fault)
      ⊎ ((mid : Moment K) × (greeting : List ℕ) × (rounds : List Round) × (held : List ℕ) × IsPull limit before mid greeting rounds held × (length rounds ≤ most)
      × Stops limit most mid rounds held fault after))

  abbrev pub Pull : ℕ → ℕ → Moment K → Moment K → Result Pulled LineFault → Type 0
  Pull limit most before after (Ok pulled) = PullsWell limit most before after pulled
  Pull limit most before after (Err fault) = Fails limit most before after fault
