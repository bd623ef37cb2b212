-- A script has one reading: a line has one word, its word's fields are one, and each field is one number, body or
-- front.
use Rattle.std.proofs.Common.{◌≡◌, ℕ, Bool, true, false, List, [], ◌∷◌, Option, Some, Bor, refl, ap, sym, ◌∙◌, subst}
use Rattle.std.specs.Prelude.{codes}
use Rattle.gate_rules.specs.Rules.{GateRules}
use Rattle.op_text.specs.OneSpelling.{one_body, one_front}
use Rattle.review_ops.specs.Draft.{deed_of}
use Rattle.world_core.specs.declared.event.Event.TheVariants.{Intake, Send, Deliver, Save, Restart}
use Rattle.script_text.specs.declared.script.Step.{Step}
use Rattle.script_text.specs.declared.script.Step.TheVariants.{Happens, SendTo, State, Front, Ready}
use Rattle.script_text.specs.Fields.{IsNumberField, written_number}
use Rattle.script_text.specs.Script.{AreSameSteps, IsReadAfter, IsSameScript, IsSameStep, SayStep, SaySteps, SaysScript}
use Rattle.script_text.specs.Script.{SaysSites, SaysStep, SpeaksScript, spoken, word_of}
use Rattle.script_text.proofs.Saying.{deliver_read, each_save, each_state, each_front, each_ready, has_no_blank}
use Rattle.script_text.proofs.Saying.{intake_read, one_split, restart_read, send_read, send_to_read}

-- no word has a blank
word_no_blank : (step : Step) → has_no_blank (word_of step) ≡ true
word_no_blank (Happens (Intake site draft)) = refl
word_no_blank (Happens (Send site front)) = refl
word_no_blank (Happens (Deliver packet site)) = refl
word_no_blank (Happens (Save site)) = refl
word_no_blank (Happens (Restart site start)) = refl
word_no_blank (SendTo site receiver) = refl
word_no_blank (State site) = refl
word_no_blank (Front site) = refl
word_no_blank (Ready site gate) = refl

one_written : (field : List ℕ) (most a b : ℕ) → IsNumberField field most a → IsNumberField field most b → a ≡ b
one_written field most a b p q = p.value ∙ sym q.value

one_gate : {X : Type 0} (under : Option X) (a b : X) → under ≡ Some a → under ≡ Some b → a ≡ b
one_gate under a b p q = cc

module _ (under : Option GateRules) where
  -- steps of one word and the same fields ask for the same
  same_said : (fields : List ℕ) (step other : Step) → SayStep under fields step
      → IsReadAfter under (word_of step) fields other → IsSameStep step other
  same_said fields (Happens (Intake site draft)) other says also =
      intake_read under fields says.0 site draft says.1
      (λ deed spelled. one_body says.0 (deed_of draft) deed says.2 spelled) other also
  same_said fields (Happens (Send site front)) other says also =
      send_read under fields says.0 site front says.1 says.2
      (λ reaches spelled. one_front says.0 front reaches says.3 spelled) other also
  same_said fields (Happens (Deliver packet site)) other says also =
      deliver_read under fields says.0 packet site says.1 says.2 other also
  same_said fields (Happens (Restart site start)) other says also =
      restart_read under fields says.0 site start says.1 says.2 other also
  same_said fields (SendTo site receiver) other says also =
      send_to_read under fields (64 ∷ says.0) says.0 site receiver says.1 refl says.2 other also
  same_said fields (Happens (Save site)) other says also =
      each_save under fields (IsSameStep (Happens (Save site)))
      (λ another h. ap (λ s. Happens (Save s)) (one_written fields 65535 site another says h)) other also
  same_said fields (State site) other says also =
      each_state under fields (IsSameStep (State site))
      (λ another h. ap State (one_written fields 65535 site another says h)) other also
  same_said fields (Front site) other says also =
      each_front under fields (IsSameStep (Front site))
      (λ another h. ap Front (one_written fields 65535 site another says h)) other also
  same_said fields (Ready site gate) other says also =
      each_ready under fields (IsSameStep (Ready site gate))
      (λ another gates h. (one_written fields 65535 site another says.0 h.0, one_gate under gate.now gates.now says.1 h.1)) other also

  one_step : (line : List ℕ) (step other : Step) → SaysStep under line step → SaysStep under line other
      → IsSameStep step other
  one_step line step other says also =
      let split = one_split (word_of step) says.0 (word_of other) also.0 (word_no_blank step) (word_no_blank other) (sym says.1 ∙ also.1) in
      same_said says.0 step other says.2
      (sym split.0, subst (λ fields. SayStep under fields other) (sym split.1) also.2)

  one_steps : (lines : List (ℕ × List ℕ)) (steps others : List Step) (bad worse : Option ℕ)
      → SaySteps under lines steps bad → SaySteps under lines others worse
      → AreSameSteps steps others × (bad ≡ worse)
  one_steps [] [] [] bad worse p q = (tt, p ∙ sym q)
  one_steps [] [] (other ∷ others) bad worse p q = absurd q
  one_steps [] (step ∷ steps) others bad worse p q = absurd p
  one_steps (line ∷ lines) [] [] bad worse p q = (tt, p.0 ∙ sym q.0)
  one_steps (line ∷ lines) [] (other ∷ others) bad worse p q = absurd (p.1 other q.0)
  one_steps (line ∷ lines) (step ∷ steps) [] bad worse p q = absurd (q.1 step p.0)
  one_steps (line ∷ lines) (step ∷ steps) (other ∷ others) bad worse p q =
      let rest = one_steps lines steps others bad worse p.1 q.1 in
      ((one_step line.1 step other p.0 q.0, rest.0), rest.1)

  one_sites : (line : List ℕ) (sites others : ℕ) → SaysSites line sites → SaysSites line others → sites ≡ others
  one_sites line sites others p q =
      let split = one_split (codes "sites") p.field (codes "sites") q.field refl refl (sym p.word ∙ q.word) in
      p.number.value ∙ ap written_number split.1 ∙ sym q.number.value

  spoken_once : (lines : List (ℕ × List ℕ)) (sites others : ℕ) (steps more : List Step) (bad worse : Option ℕ)
      → SpeaksScript under lines sites steps bad → SpeaksScript under lines others more worse
      → IsSameScript sites steps bad others more worse
  spoken_once [] sites others steps more bad worse p q = absurd p
  spoken_once (line ∷ lines) sites others steps more bad worse p q =
      let rest = one_steps lines steps more bad worse p.1 q.1 in
      (one_sites line.1 sites others p.0 q.0, rest.0, rest.1)

  pub one_script : (text : List ℕ) (sites others : ℕ) (steps more : List Step) (bad worse : Option ℕ)
      → SaysScript under text sites steps bad → SaysScript under text others more worse
      → IsSameScript sites steps bad others more worse
  one_script text = spoken_once (spoken text)
