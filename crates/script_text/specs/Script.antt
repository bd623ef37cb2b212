-- What the lines of a script say. The grammar is the project's own. A `ready` line says something only under a gate,
-- which its reports are made under.
use Rattle.std.specs.Prelude.{◌≡◌, ◌≤◌, ◌==◌, ℕ, Bool, false, List, [], ◌∷◌, Option, None, Some, Result, Ok, Err, codes}
use Rattle.byte_ends.specs.Lines.{lines_of}
use Rattle.gate_rules.specs.Rules.{GateRules}
use Rattle.op_text.specs.declared.fault.OpTextFault.{OpTextFault}
use Rattle.op_text.specs.declared.fault.OpTextFault.TheVariants as text
use Rattle.op_text.specs.Front.{SpellsFront}
use Rattle.op_text.specs.Spelling.{SpellsBody}
use Rattle.review_ops.specs.Draft.{deed_of}
use Rattle.world_core.specs.declared.event.Event.TheVariants.{Intake, Send, Deliver, Save, Restart}
use Rattle.script_text.specs.declared.fault.ScriptFault.{ScriptFault}
use Rattle.script_text.specs.declared.fault.ScriptFault.TheVariants.{BadSites, BadLine, NoMemory}
use Rattle.script_text.specs.declared.script.LineFault.{LineFault}
use Rattle.script_text.specs.declared.script.LineFault.TheVariants as line
use Rattle.script_text.specs.declared.script.Step.{Step}
use Rattle.script_text.specs.declared.script.Step.TheVariants.{Happens, SendTo, State, Front, Ready}
use Rattle.script_text.specs.Fields.{IsAfterWord, IsNumberField, IsSplit}
use Rattle.script_text.specs.ScriptLines.{spoken_after}

-- ---- fields

-- the greatest site, start and packet
abbrev pub most_site : ℕ
most_site = 65535

abbrev pub most_start : ℕ
most_start = 4294967295

abbrev pub most_packet : ℕ
most_packet = 18446744073709551615

-- the fields are a number, one blank and the rest
pub record IsNumberBefore (fields : List ℕ) (most number : ℕ) (rest : List ℕ) : Type 0 where
  pub field : List ℕ
  pub cut : IsSplit fields field rest
  pub written : IsNumberField field most number

-- whether a front is named as that of a site, which `@` says
abbrev pub names_site : List ℕ → Bool
names_site [] = false
names_site (byte ∷ text) = byte == 64

-- ---- a line

-- the word that a line begins with
abbrev pub word_of : Step → List ℕ
word_of (Happens (Intake site draft)) = codes "intake"
word_of (Happens (Send site front)) = codes "send"
word_of (Happens (Deliver packet site)) = codes "deliver"
word_of (Happens (Save site)) = codes "save"
word_of (Happens (Restart site start)) = codes "restart"
word_of (SendTo site receiver) = codes "send"
word_of (State site) = codes "state"
word_of (Front site) = codes "front"
word_of (Ready site gate) = codes "ready"

-- what follows the word and a blank
abbrev pub SayStep : Option GateRules → List ℕ → Step → Type 0
-- `SITE BODY`
SayStep under fields (Happens (Intake site draft)) =
    (body : List ℕ) × IsNumberBefore fields most_site site body × SpellsBody body (deed_of draft)
-- `SITE FRONT`
SayStep under fields (Happens (Send site front)) =
    (text : List ℕ) × IsNumberBefore fields most_site site text × (names_site text ≡ false) × SpellsFront text front
-- `PACKET SITE`
SayStep under fields (Happens (Deliver packet site)) =
    (field : List ℕ) × IsNumberBefore fields most_packet packet field × IsNumberField field most_site site
-- `SITE`
SayStep under fields (Happens (Save site)) = IsNumberField fields most_site site
-- `SITE START`
SayStep under fields (Happens (Restart site start)) =
    (field : List ℕ) × IsNumberBefore fields most_site site field × IsNumberField field most_start start
-- `SITE @SITE`
SayStep under fields (SendTo site receiver) =
    (field : List ℕ) × IsNumberBefore fields most_site site (64 ∷ field) × IsNumberField field most_site receiver
-- `SITE`
SayStep under fields (State site) = IsNumberField fields most_site site
SayStep under fields (Front site) = IsNumberField fields most_site site
-- `SITE`, under a gate
SayStep under fields (Ready site gate) = IsNumberField fields most_site site × (under ≡ Some gate.now)

-- the line is the step's word, a blank and its fields
abbrev pub SaysStep : Option GateRules → List ℕ → Step → Type 0
SaysStep under line step = (fields : List ℕ) × IsAfterWord line (word_of step) fields × SayStep under fields step

-- the same of a line that begins with this word
abbrev pub IsReadAfter : Option GateRules → List ℕ → List ℕ → Step → Type 0
IsReadAfter under word fields step = (word_of step ≡ word) × SayStep under fields step

-- the line says no step
abbrev pub SaysNoStep : Option GateRules → List ℕ → Type 0
SaysNoStep under line = (step : Step) → ¬ SaysStep under line step

-- steps that ask for the same: drafts of the same deed are as good as one, and so are gates with the same rules
abbrev pub IsSameStep : Step → Step → Type 0
IsSameStep (Happens (Intake site draft)) (Happens (Intake other another)) =
    (site ≡ other) × (deed_of draft ≡ deed_of another)
IsSameStep (Ready site gate) (Ready other another) = (site ≡ other) × (gate.now ≡ another.now)
IsSameStep step other = step ≡ other

-- why nothing is asked for where a body or a front isn't read
abbrev pub line_fault_of : OpTextFault → LineFault
line_fault_of text.NoMemory = line.NoMemory
line_fault_of text.NotJson = line.Bad
line_fault_of (text.BadShape key) = line.Bad
line_fault_of (text.BadBody fault) = line.Bad

-- how a line that says the step is read: as that step, unless memory runs out
abbrev pub IsStepRead : Step → Result Step LineFault → Type 0
IsStepRead step (Ok read) = IsSameStep read step
IsStepRead step (Err fault) = fault ≡ line.NoMemory

-- ---- a script

-- the first line that says something: `sites N`, N from 1 to 64
pub record SaysSites (line : List ℕ) (sites : ℕ) : Type 0 where
  pub field : List ℕ
  pub word : IsAfterWord line (codes "sites") field
  pub number : IsNumberField field 64 sites
  pub some : 1 ≤ sites

-- the lines say these steps, one each, up to the first that says none, whose number comes with them
abbrev pub SaySteps : Option GateRules → List (ℕ × List ℕ) → List Step → Option ℕ → Type 0
SaySteps under [] [] bad = bad ≡ None
SaySteps under [] (step ∷ steps) bad = ⊥
SaySteps under (next ∷ lines) [] bad = (bad ≡ Some next.0) × SaysNoStep under next.1
SaySteps under (next ∷ lines) (step ∷ steps) bad = SaysStep under next.1 step × SaySteps under lines steps bad

-- the first line says how many sites there are, and the lines after it say the steps
abbrev pub SpeaksScript : Option GateRules → List (ℕ × List ℕ) → ℕ → List Step → Option ℕ → Type 0
SpeaksScript under [] sites steps bad = ⊥
SpeaksScript under (first ∷ lines) sites steps bad = SaysSites first.1 sites × SaySteps under lines steps bad

-- the text's lines that say something, with their numbers from 1 on
abbrev pub spoken : List ℕ → List (ℕ × List ℕ)
spoken text = spoken_after 0 (lines_of text)

-- what the whole text of a script says
abbrev pub SaysScript : Option GateRules → List ℕ → ℕ → List Step → Option ℕ → Type 0
SaysScript under text sites steps bad = SpeaksScript under (spoken text) sites steps bad

-- the same steps, one by one
abbrev pub AreSameSteps : List Step → List Step → Type 0
AreSameSteps [] [] = Unit {0}
AreSameSteps [] (other ∷ others) = ⊥
AreSameSteps (step ∷ steps) [] = ⊥
AreSameSteps (step ∷ steps) (other ∷ others) = IsSameStep step other × AreSameSteps steps others

-- two readings of a script that are one: as many sites, the same steps, and the same line that says none
abbrev pub IsSameScript : ℕ → List Step → Option ℕ → ℕ → List Step → Option ℕ → Type 0
IsSameScript sites steps bad others more worse = (sites ≡ others) × AreSameSteps steps more × (bad ≡ worse)

-- the first line that says something isn't `sites N`, or there is none
abbrev pub SpeaksNoSites : List (ℕ × List ℕ) → Type 0
SpeaksNoSites [] = Unit {0}
SpeaksNoSites (first ∷ lines) = (sites : ℕ) → ¬ SaysSites first.1 sites

-- why a script isn't read; `NoMemory` says nothing about the script
abbrev pub IsUnreadScript : List ℕ → ScriptFault → Type 0
IsUnreadScript text BadSites = SpeaksNoSites (spoken text)
IsUnreadScript text (BadLine number) = ⊥
IsUnreadScript text NoMemory = Unit {0}
