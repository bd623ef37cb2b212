-- What a line of a session asks for.
use Rattle.std.specs.Prelude.{◌≡◌, ◌≢◌, ◌++◌, ℕ, List, codes}
use Rattle.gossip_line.specs.Texts.{hello}
use Rattle.gossip_line.specs.declared.command.Command.{Command}
use Rattle.gossip_line.specs.declared.command.Command.TheVariants.{Hello, OtherVersion, Take, Front, Ready, State, Heard, Quit}
use Rattle.gossip_line.specs.declared.command.Command.TheVariants.{Other}

-- what follows a word in a line
abbrev pub Follows : List ℕ → List ℕ → List ℕ → Type 0
Follows word line text = line ≡ word ++ text

abbrev pub BeginsLine : List ℕ → List ℕ → Type 0
BeginsLine word line = (text : List ℕ) × Follows word line text

abbrev pub version_word : List ℕ
version_word = codes "hello "

abbrev pub take_word : List ℕ
take_word = codes "take "

abbrev pub front_word : List ℕ
front_word = codes "front "

-- a line that is none of the commands
pub record IsOther (line : List ℕ) : Type 0 where
  pub version : ¬ BeginsLine version_word line
  pub take : ¬ BeginsLine take_word line
  pub front : ¬ BeginsLine front_word line
  pub ready : line ≢ codes "ready"
  pub state : line ≢ codes "state"
  pub heard : line ≢ codes "heard"
  pub quit : line ≢ codes "quit"

-- the line is this command
abbrev pub Says : List ℕ → Command → Type 0
Says line Hello = line ≡ hello
Says line OtherVersion = BeginsLine version_word line × (line ≢ hello)
Says line (Take text) = Follows take_word line text.now
Says line (Front text) = Follows front_word line text.now
Says line Ready = line ≡ codes "ready"
Says line State = line ≡ codes "state"
Says line Heard = line ≡ codes "heard"
Says line Quit = line ≡ codes "quit"
Says line Other = IsOther line
