-- What a script's steps print, one after the other. The texts are the project's own; the world is world_core's machine.
use Rattle.std.specs.Prelude.{◌≡◌, ◌⊎◌, ℕ, Bool, List, [], ◌∷◌, ◌++◌, MatchOption, Ok, Err, codes, decimal}
use Rattle.std.specs.Prelude.{if◌then◌else◌}
use Rattle.std.specs.Global.{Global}
use Rattle.gate_rules.specs.Rules.{GateRules}
use Rattle.op_text.specs.Front.{front_text}
use Rattle.ready_core.specs.Verdicts.{AreVerdicts, Judged}
use Rattle.report_text.specs.Report.{report_of}
use Rattle.review_ops.specs.Operation.{Operation}
use Rattle.review_ops.specs.Timestamp.{timestamp_text}
use Rattle.replica_core.specs.Front.{Reaches, IsFront}
use Rattle.state_core.specs.State.{state_of}
use Rattle.report_text.specs.StateText.{state_text}
use Rattle.world_core.specs.declared.event.Event.{Event}
use Rattle.world_core.specs.declared.event.Event.TheVariants.{Send}
use Rattle.world_core.specs.declared.event.Reply.{Reply}
use Rattle.world_core.specs.declared.event.Reply.TheVariants.{Took, Packet, Delivered, Saved, Restarted}
use Rattle.world_core.specs.Fault.{name_of, number_of}
use Rattle.world_core.specs.Numbered.{numbered}
use Rattle.world_core.specs.Step.{Answer, Run, Step as MayAnswer}
use Rattle.world_core.specs.World.{WorldState, new_world}
use Rattle.script_play.specs.declared.texts.Text.{Text}
use Rattle.script_play.specs.declared.texts.Text.TheVariants.{Made, Fixed}
use Rattle.script_text.specs.declared.script.Step.{Step}
use Rattle.script_text.specs.declared.script.Step.TheVariants.{Happens, SendTo, State, Front, Ready}

-- the bytes that are printed
abbrev pub bytes_of : Text → List ℕ
bytes_of (Made bytes) = bytes.items
bytes_of (Fixed text) = text.now

-- ---- one line for one answer

abbrev pub step_rest_word : Bool → List ℕ
step_rest_word more = if more then codes "more" else codes "done"

abbrev pub step_reply_text : Reply → List ℕ
step_reply_text (Took stamp) = codes "ok " ++ timestamp_text stamp
step_reply_text (Packet number count more) =
    codes "packet " ++ decimal number ++ codes " " ++ decimal count ++ codes " " ++ step_rest_word more
step_reply_text (Delivered count) = codes "took " ++ decimal count
step_reply_text Saved = codes "saved"
step_reply_text Restarted = codes "restarted"

abbrev pub step_answer_text : Answer → List ℕ
step_answer_text (Ok reply) = step_reply_text reply
step_answer_text (Err fault) = codes "no " ++ decimal (number_of fault) ++ codes " " ++ name_of fault

abbrev pub answer_line : Answer → List ℕ
answer_line answer = step_answer_text answer ++ codes "\n"

-- what is printed of a site that isn't there, and where memory doesn't suffice for what is to be shown
abbrev pub no_site : List ℕ
no_site = codes "no 1 NoSite\n"

abbrev pub no_memory : List ℕ
no_memory = codes "no 6 NoMemory\n"

-- ---- a step, from the old world to the new one

-- the event happens, and its answer is printed
abbrev pub PlaysEvent : WorldState → Event Global → List ℕ → WorldState → Type 0
PlaysEvent old event printed new = (answer : Answer) × MayAnswer old event answer new × (printed ≡ answer_line answer)

-- a site sends what another lacks by its front now, or memory doesn't suffice for the front
abbrev pub PlaysSendTo : ℕ → List Operation → WorldState → List ℕ → WorldState → Type 0
PlaysSendTo site journal old printed new =
    ((front : Reaches) × IsFront journal front × PlaysEvent old (Send site front) printed new)
    ⊎ ((printed ≡ no_memory) × (new ≡ old))

-- the state text is shown, or memory doesn't suffice for it
abbrev pub ShowsState : List Operation → List ℕ → Type 0
ShowsState journal printed = (printed ≡ state_text (state_of journal)) ⊎ (printed ≡ no_memory)

-- the front's text is shown on a line, or memory doesn't suffice for it
abbrev pub ShowsFront : List Operation → List ℕ → Type 0
ShowsFront journal printed =
    ((front : Reaches) × IsFront journal front × (printed ≡ front_text front ++ codes "\n")) ⊎ (printed ≡ no_memory)

-- the report of the journal's state under the gate is shown, or memory doesn't suffice for it
abbrev pub ShowsReport : GateRules → List Operation → List ℕ → Type 0
ShowsReport gate journal printed =
    ((verdicts : Judged) × AreVerdicts gate (state_of journal) verdicts × (printed ≡ report_of verdicts))
    ⊎ (printed ≡ no_memory)

abbrev pub PlaysStep : WorldState → Step → List ℕ → WorldState → Type 0
PlaysStep old (Happens event) printed new = PlaysEvent old event printed new
PlaysStep old (SendTo site receiver) printed new = MatchOption (numbered old.sites receiver)
    ((printed ≡ no_site) × (new ≡ old)) (λ at. PlaysSendTo site at.journal old printed new)
PlaysStep old (State site) printed new =
    MatchOption (numbered old.sites site) (printed ≡ no_site) (λ at. ShowsState at.journal printed) × (new ≡ old)
PlaysStep old (Front site) printed new =
    MatchOption (numbered old.sites site) (printed ≡ no_site) (λ at. ShowsFront at.journal printed) × (new ≡ old)
PlaysStep old (Ready site gate) printed new =
    MatchOption (numbered old.sites site) (printed ≡ no_site) (λ at. ShowsReport gate.now at.journal printed)
    × (new ≡ old)

-- ---- a run: one step after the other, each from the world that the one before left, and their texts in that order

abbrev pub Plays : WorldState → List Step → List ℕ → WorldState → Type 0
Plays old [] printed new = (printed ≡ []) × (new ≡ old)
Plays old (step ∷ steps) printed new =
    (text : List ℕ) × (mid : WorldState) × (rest : List ℕ) × PlaysStep old step text mid × Plays mid steps rest new
    × (printed ≡ text ++ rest)

-- from the start, some run by these steps prints this
abbrev pub IsRunText : WorldState → List Step → List ℕ → Type 0
IsRunText start steps text = (new : WorldState) × Plays start steps text new

-- these are the first of the steps
abbrev pub AreFirst : List Step → List Step → Type 0
AreFirst first steps = (rest : List Step) × (steps ≡ first ++ rest)
