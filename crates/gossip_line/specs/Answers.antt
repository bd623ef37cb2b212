-- Which answer belongs to which line, and what it leaves of the port: the table of a session, over any port.
use Rattle.std.specs.Prelude.{◌≡◌, ◌≢◌, ◌⊎◌, ◌<◌, ℕ, Bool, true, false, List, Option, Result, Err, codes, length, take}
use Rattle.std.specs.Io.KnownBytes.{Appends}
use Rattle.byte_ends.specs.Failures.{OneFailed}
use Rattle.gossip_line.specs.Commands.{BeginsLine, Follows, IsOther, front_word, take_word, version_word}
use Rattle.gossip_line.specs.Texts.{SessionAnswer, greeting, bad_version, replied, no_memory, bad_command, bad_text, farewell}
use Rattle.gossip_line.specs.Texts.{noted, not_allowed}
use Rattle.gossip_line.specs.Texts.{hello, answer_text, next_of}
use Rattle.gossip_line.specs.declared.fault.LineFault.{LineFault}
use Rattle.gossip_line.specs.declared.fault.LineFault.TheVariants.{WriteFault}
use Rattle.op_text.specs.Front.{SpellsFront}
use Rattle.op_text.specs.Spelling.{SpellsBody}
use Rattle.replica_core.specs.Front.{Reaches}
use Rattle.review_ops.specs.Deed.{Deed}
use Rattle.site_port.specs.Ports.{Call, Reply, takes_in, lacks, reports, looks}

-- what a line asks of the port
abbrev pub Asks : List ℕ → Call → Type 0
Asks line (takes_in deed) = (text : List ℕ) × Follows take_word line text × SpellsBody text deed
Asks line (lacks front) = (text : List ℕ) × Follows front_word line text × SpellsFront text front
Asks line reports = line ≡ codes "ready"
Asks line looks = line ≡ codes "state"

-- what follows the command spells nothing
abbrev pub IsMisspelled : List ℕ → Type 0
IsMisspelled line =
    ((text : List ℕ) × Follows take_word line text × ((deed : Deed) → ¬ SpellsBody text deed))
    ⊎ ((text : List ℕ) × Follows front_word line text × ((front : Reaches) → ¬ SpellsFront text front))

-- a call whose reply is made a text before it is written, which takes memory
abbrev pub IsMadeText : Call → Type 0
IsMadeText (lacks front) = Unit {0}
IsMadeText looks = Unit {0}
IsMadeText call = ⊥

abbrev pub IsFirstAnswer : List ℕ → SessionAnswer → Type 0
IsFirstAnswer line greeting = line ≡ hello
IsFirstAnswer line bad_version = line ≢ hello
IsFirstAnswer line answer = ⊥

module _ {P : Type 0} (gives : P → Call → Reply → P → Type 0) where
  -- memory was refused for what follows the command, and the port wasn't asked; or for the text of what it replied
  abbrev pub IsWant : P → List ℕ → P → Type 0
  IsWant old line new =
      ((BeginsLine take_word line ⊎ BeginsLine front_word line) × (new ≡ old))
      ⊎ ((call : Call) × (reply : Reply) × Asks line call × IsMadeText call × gives old call reply new)

  -- a line after the first is answered so
  abbrev pub IsAnswer : P → List ℕ → SessionAnswer → P → Type 0
  IsAnswer old line greeting new = (line ≡ hello) × (new ≡ old)
  IsAnswer old line bad_version new = BeginsLine version_word line × (line ≢ hello) × (new ≡ old)
  IsAnswer old line (replied reply) new = (call : Call) × Asks line call × gives old call reply new
  IsAnswer old line no_memory new = IsWant old line new
  IsAnswer old line bad_command new = IsOther line × (new ≡ old)
  IsAnswer old line bad_text new = IsMisspelled line × (new ≡ old)
  IsAnswer old line noted new = (line ≡ codes "heard") × (new ≡ old)
  IsAnswer old line farewell new = (line ≡ codes "quit") × (new ≡ old)
  -- who may ask for everything is never answered so
  IsAnswer old line not_allowed new = ⊥

  -- the first line has to name the version
  abbrev pub Answers : Bool → P → List ℕ → SessionAnswer → P → Type 0
  Answers true old line answer new = IsFirstAnswer line answer × (new ≡ old)
  Answers false old line answer new = IsAnswer old line answer new

-- ---- writing

-- all of the text was written, and no write failed
pub record IsWritten (text : List ℕ) (taken later : Option (List ℕ)) (failed failures : ℕ) : Type 0 where
  pub whole : Appends taken later text
  pub none_failed : failures ≡ failed

-- a proper prefix of the text was written, and then a write failed
pub record AnswerIsCutShort (text : List ℕ) (taken later : Option (List ℕ)) (failed failures : ℕ) : Type 0 where
  pub count : ℕ
  pub proper : count < length text
  pub prefix : Appends taken later (take count text)
  pub one_failed : OneFailed failed failures

-- the text is written, and then the result is this one; or writing it failed
abbrev pub Sends : {T : Type 0} → List ℕ → Result T LineFault → Option (List ℕ) → Option (List ℕ) → ℕ → ℕ
    → Result T LineFault → Type 0
Sends text wanted taken later failed failures (Err WriteFault) = AnswerIsCutShort text taken later failed failures
Sends text wanted taken later failed failures result = (result ≡ wanted) × IsWritten text taken later failed failures

-- a line is answered, and that is written
module _ {P : Type 0} (gives : P → Call → Reply → P → Type 0) where
  abbrev pub IsAnswered : Bool → P → List ℕ → P → Option (List ℕ) → Option (List ℕ) → ℕ → ℕ → Result Bool LineFault
      → Type 0
  IsAnswered first old line new taken later failed failures result =
      (answer : SessionAnswer) × Answers gives first old line answer new
      × Sends (answer_text answer) (next_of answer) taken later failed failures result
