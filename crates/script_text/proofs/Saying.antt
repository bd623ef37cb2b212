-- What a line says, by its word and its fields.
use Rattle.std.proofs.Common.{◌≡◌, ℕ, suc, ◌==◌, Bool, true, false, append-nil, cond, eqb, List, [], ◌∷◌, ◌++◌, Result}
use Rattle.std.proofs.Common.{Ok, Err, Option, None, Some, Bor, Global, refl, ap, sym, ◌∙◌, subst, arith}
use Rattle.std.specs.Prelude.{codes, Contains, IfOk}
use Rattle.std.specs.Cmp.Lexicographic.{pointwise}
use Rattle.std.proofs.lemmas.Bool.{eqb-true, false≢true}
use Rattle.gate_rules.specs.Rules.{GateRules}
use Rattle.op_text.specs.declared.fault.OpTextFault.{OpTextFault}
use Rattle.op_text.specs.declared.fault.OpTextFault.TheVariants as text
use Rattle.op_text.specs.Front.{SpellsFront}
use Rattle.op_text.specs.Spelling.{SpellsBody}
use Rattle.replica_core.specs.Front.{Reaches}
use Rattle.review_ops.specs.declared.draft.Draft.{Draft}
use Rattle.review_ops.specs.Deed.{Deed}
use Rattle.review_ops.specs.Draft.{deed_of}
use Rattle.world_core.specs.declared.event.Event.TheVariants.{Intake, Send, Deliver, Save, Restart}
use Rattle.script_text.specs.declared.script.LineFault.{LineFault}
use Rattle.script_text.specs.declared.script.LineFault.TheVariants as line
use Rattle.script_text.specs.declared.script.Step.{Step}
use Rattle.script_text.specs.declared.script.Step.TheVariants.{Happens, SendTo, State, Front, Ready}
use Rattle.script_text.proofs.FieldLemmas.{same_texts}
use Rattle.script_text.specs.Fields.{IsAfterWord, IsNumberField, IsSplit, written_number}
use Rattle.script_text.specs.Script.{IsNumberBefore, IsReadAfter, IsSameStep, SaySteps, SayStep, SaysNoStep, SaysScript}
use Rattle.script_text.specs.Script.{SaysSites, SaysStep, SpeaksScript, line_fault_of, most_packet, most_site}
use Rattle.script_text.specs.Script.{most_start, names_site, spoken, word_of}

-- ---- a field ends at the first blank, so there is one way to split

-- no byte of it is a blank
abbrev pub has_no_blank : List ℕ → Bool
has_no_blank [] = true
has_no_blank (byte ∷ field) = cond (byte == 32) false (has_no_blank field)

no_blank_first : (byte : ℕ) (field : List ℕ) → has_no_blank (byte ∷ field) ≡ true → byte ≡ 32 → ⊥
no_blank_first byte field none is = let blank : has_no_blank (32 ∷ field) ≡ true = subst (λ b. has_no_blank (b ∷ field) ≡ true) is none in cc

no_blank_later : (byte : ℕ) (field : List ℕ) → has_no_blank (byte ∷ field) ≡ true → has_no_blank field ≡ true
no_blank_later byte field none = elim (byte == 32) as
    (λ t. cond t false (has_no_blank field) ≡ true → has_no_blank field ≡ true) [ true ↦ λ e. cc | false ↦ λ e. e ] none

without_blank : (field : List ℕ) → ¬ Contains field 32 → has_no_blank field ≡ true
without_blank [] none = refl
without_blank (byte ∷ field) none =
    elim (byte == 32) as (λ t. (byte == 32) ≡ t → cond t false (has_no_blank field) ≡ true) [
      | true ↦ λ e. absurd (none (0, omega arith, eqb-true byte 32 e))
      | false ↦ λ e. without_blank field (λ h. none (suc h.0, omega (arith, h.1), h.2))
    ] refl

pub one_split : (field rest other others : List ℕ) → has_no_blank field ≡ true → has_no_blank other ≡ true
    → field ++ 32 ∷ rest ≡ other ++ 32 ∷ others → (field ≡ other) × (rest ≡ others)
one_split [] rest [] others p q e = (refl, cc)
one_split [] rest (b ∷ other) others p q e = let same : 32 ≡ b = cc in absurd (no_blank_first b other q (sym same))
one_split (a ∷ field) rest [] others p q e = let same : a ≡ 32 = cc in absurd (no_blank_first a field p same)
one_split (a ∷ field) rest (b ∷ other) others p q e =
    let same : a ≡ b = cc in
    let tails : field ++ 32 ∷ rest ≡ other ++ 32 ∷ others = cc in
    let more = one_split field rest other others (no_blank_later a field p) (no_blank_later b other q) tails in
    (ap (λ c. c ∷ field) same ∙ ap (λ f. b ∷ f) more.0, more.1)

-- a number before a blank is one, and so is what follows
pub one_number : (fields : List ℕ) (most number other : ℕ) (rest others : List ℕ)
    → IsNumberBefore fields most number rest → IsNumberBefore fields most other others
    → (number ≡ other) × (rest ≡ others)
one_number fields most number other rest others a b =
    let same = one_split a.field rest b.field others (without_blank a.field a.cut.no_blank) (without_blank b.field b.cut.no_blank) (sym a.cut.whole ∙ b.cut.whole) in
    (a.written.value ∙ ap written_number same.0 ∙ sym b.written.value, same.1)

-- where the first field is no number, none is there
pub no_number : (fields field rest : List ℕ) (most : ℕ) → IsSplit fields field rest
    → ((number : ℕ) → ¬ IsNumberField field most number) → (number : ℕ) (others : List ℕ)
    → ¬ IsNumberBefore fields most number others
no_number fields field rest most cut none number others before =
    let same = one_split before.field others field rest (without_blank before.field before.cut.no_blank) (without_blank field cut.no_blank) (sym before.cut.whole ∙ cut.whole) in
    none number (subst (λ f. IsNumberField f most number) same.0 before.written)

module _ (gate : Option GateRules) where
  -- ---- a line has one word

  -- ---- the steps of a word

  words_differ : (word other : List ℕ) → word ≡ other → pointwise eqb word other ≡ false → ⊥
  words_differ word other same differs = false≢true (sym differs ∙ same_texts word other same)

  -- what holds of each step of a word holds of each that the word and the fields say
  each_intake : (fields : List ℕ) (P : Step → Type 0) → ((site : ℕ) (draft : Draft Global) → SayStep gate fields (Happens (Intake site draft)) → P (Happens (Intake site draft))) → (step : Step) → IsReadAfter gate (codes "intake") fields step → P step
  each_intake fields P f (Happens (Intake site draft)) h = f site draft h.1
  each_intake fields P f step h = absurd (words_differ (word_of step) (codes "intake") h.0 refl)

  each_send : (fields : List ℕ) (P : Step → Type 0)
      → ((site : ℕ) (front : Reaches) → SayStep gate fields (Happens (Send site front)) → P (Happens (Send site front)))
      → ((site receiver : ℕ) → SayStep gate fields (SendTo site receiver) → P (SendTo site receiver)) → (step : Step)
      → IsReadAfter gate (codes "send") fields step → P step
  each_send fields P f k (Happens (Send site front)) h = f site front h.1
  each_send fields P f k (SendTo site receiver) h = k site receiver h.1
  each_send fields P f k step h = absurd (words_differ (word_of step) (codes "send") h.0 refl)

  each_deliver : (fields : List ℕ) (P : Step → Type 0)
      → ((packet site : ℕ) → SayStep gate fields (Happens (Deliver packet site)) → P (Happens (Deliver packet site)))
      → (step : Step) → IsReadAfter gate (codes "deliver") fields step → P step
  each_deliver fields P f (Happens (Deliver packet site)) h = f packet site h.1
  each_deliver fields P f step h = absurd (words_differ (word_of step) (codes "deliver") h.0 refl)

  each_restart : (fields : List ℕ) (P : Step → Type 0)
      → ((site start : ℕ) → SayStep gate fields (Happens (Restart site start)) → P (Happens (Restart site start)))
      → (step : Step) → IsReadAfter gate (codes "restart") fields step → P step
  each_restart fields P f (Happens (Restart site start)) h = f site start h.1
  each_restart fields P f step h = absurd (words_differ (word_of step) (codes "restart") h.0 refl)

  pub each_ready : (field : List ℕ) (P : Step → Type 0)
      → ((site : ℕ) (under : Bor GateRules) → SayStep gate field (Ready site under) → P (Ready site under))
      → (step : Step) → IsReadAfter gate (codes "ready") field step → P step
  each_ready fields P f (Ready site under) h = f site under h.1
  each_ready fields P f (Happens (Intake site draft)) h =
      absurd (words_differ (word_of (Happens (Intake site draft))) (codes "ready") h.0 refl)
  each_ready fields P f (Happens (Send site front)) h =
      absurd (words_differ (word_of (Happens (Send site front))) (codes "ready") h.0 refl)
  each_ready fields P f (Happens (Deliver packet site)) h =
      absurd (words_differ (word_of (Happens (Deliver packet site))) (codes "ready") h.0 refl)
  each_ready fields P f (Happens (Save site)) h =
      absurd (words_differ (word_of (Happens (Save site))) (codes "ready") h.0 refl)
  each_ready fields P f (Happens (Restart site start)) h =
      absurd (words_differ (word_of (Happens (Restart site start))) (codes "ready") h.0 refl)
  each_ready fields P f step h = absurd (words_differ (word_of step) (codes "ready") h.0 refl)

  pub each_save : (fields : List ℕ) (P : Step → Type 0)
      → ((site : ℕ) → SayStep gate fields (Happens (Save site)) → P (Happens (Save site))) → (step : Step)
      → IsReadAfter gate (codes "save") fields step → P step
  each_save fields P f (Happens (Save site)) h = f site h.1
  each_save fields P f step h = absurd (words_differ (word_of step) (codes "save") h.0 refl)

  pub each_state : (fields : List ℕ) (P : Step → Type 0)
      → ((site : ℕ) → SayStep gate fields (State site) → P (State site)) → (step : Step)
      → IsReadAfter gate (codes "state") fields step → P step
  each_state fields P f (State site) h = f site h.1
  each_state fields P f (Happens (Intake site draft)) h =
      absurd (words_differ (codes "intake") (codes "state") h.0 refl)
  each_state fields P f (Happens (Send site front)) h = absurd (words_differ (codes "send") (codes "state") h.0 refl)
  each_state fields P f (Happens (Deliver packet site)) h =
      absurd (words_differ (codes "deliver") (codes "state") h.0 refl)
  each_state fields P f (Happens (Save site)) h = absurd (words_differ (codes "save") (codes "state") h.0 refl)
  each_state fields P f (Happens (Restart site start)) h =
      absurd (words_differ (codes "restart") (codes "state") h.0 refl)
  each_state fields P f step h = absurd (words_differ (word_of step) (codes "state") h.0 refl)

  pub each_front : (fields : List ℕ) (P : Step → Type 0)
      → ((site : ℕ) → SayStep gate fields (Front site) → P (Front site)) → (step : Step)
      → IsReadAfter gate (codes "front") fields step → P step
  each_front fields P f (Front site) h = f site h.1
  each_front fields P f (Happens (Intake site draft)) h =
      absurd (words_differ (codes "intake") (codes "front") h.0 refl)
  each_front fields P f (Happens (Send site front)) h = absurd (words_differ (codes "send") (codes "front") h.0 refl)
  each_front fields P f (Happens (Deliver packet site)) h =
      absurd (words_differ (codes "deliver") (codes "front") h.0 refl)
  each_front fields P f (Happens (Save site)) h = absurd (words_differ (codes "save") (codes "front") h.0 refl)
  each_front fields P f (Happens (Restart site start)) h =
      absurd (words_differ (codes "restart") (codes "front") h.0 refl)
  each_front fields P f step h = absurd (words_differ (word_of step) (codes "front") h.0 refl)

  -- ---- `intake`

  pub no_intake : (fields : List ℕ) → ((site : ℕ) (rest : List ℕ) → ¬ IsNumberBefore fields most_site site rest)
      → (step : Step) → ¬ IsReadAfter gate (codes "intake") fields step
  no_intake fields none = each_intake fields (λ _. ⊥) (λ site draft h. none site h.0 h.1)

  pub intake_unread : (fields body : List ℕ) (site : ℕ) (fault : OpTextFault)
      → IsNumberBefore fields most_site site body → ((deed : Deed) → SpellsBody body deed → fault ≡ text.NoMemory)
      → (step : Step) → IsReadAfter gate (codes "intake") fields step → line_fault_of fault ≡ line.NoMemory
  intake_unread fields body site fault before only =
      each_intake fields (λ _. line_fault_of fault ≡ line.NoMemory) (λ other draft h.
      ap line_fault_of (only (deed_of draft) (subst (λ b. SpellsBody b (deed_of draft)) (one_number fields most_site other site h.0 body h.1 before).1 h.2)))

  pub intake_read : (fields body : List ℕ) (site : ℕ) (draft : Draft Global) → IsNumberBefore fields most_site site body
      → ((deed : Deed) → SpellsBody body deed → deed_of draft ≡ deed)
      → (step : Step) → IsReadAfter gate (codes "intake") fields step → IsSameStep (Happens (Intake site draft)) step
  intake_read fields body site draft before only =
      each_intake fields (IsSameStep (Happens (Intake site draft))) (λ other another h.
      let same = one_number fields most_site other site h.0 body h.1 before in
      (sym same.0, only (deed_of another) (subst (λ b. SpellsBody b (deed_of another)) same.1 h.2)))

  -- ---- `send`

  pub no_send : (fields : List ℕ) → ((site : ℕ) (rest : List ℕ) → ¬ IsNumberBefore fields most_site site rest)
      → (step : Step) → ¬ IsReadAfter gate (codes "send") fields step
  no_send fields none =
      each_send fields (λ _. ⊥) (λ site front h. none site h.0 h.1) (λ site receiver h. none site (64 ∷ h.0) h.1)

  names_no_site : (given field : List ℕ) → names_site given ≡ false → 64 ∷ field ≡ given → ⊥
  names_no_site given field none is = let e : names_site (64 ∷ field) ≡ false = subst (λ g. names_site g ≡ false) (sym is) none in cc

  pub send_unread : (fields given : List ℕ) (site : ℕ) (fault : OpTextFault)
      → IsNumberBefore fields most_site site given → names_site given ≡ false
      → ((front : Reaches) → SpellsFront given front → fault ≡ text.NoMemory)
      → (step : Step) → IsReadAfter gate (codes "send") fields step → line_fault_of fault ≡ line.NoMemory
  send_unread fields given site fault before none only =
      each_send fields (λ _. line_fault_of fault ≡ line.NoMemory)
      (λ other front h. ap line_fault_of (only front (subst (λ b. SpellsFront b front) (one_number fields most_site other site h.0 given h.1 before).1 h.3)))
      (λ other receiver h. absurd (names_no_site given h.0 none (one_number fields most_site other site (64 ∷ h.0) given h.1 before).1))

  pub send_read : (fields given : List ℕ) (site : ℕ) (front : Reaches) → IsNumberBefore fields most_site site given
      → names_site given ≡ false → ((other : Reaches) → SpellsFront given other → front ≡ other)
      → (step : Step) → IsReadAfter gate (codes "send") fields step → IsSameStep (Happens (Send site front)) step
  send_read fields given site front before none only =
      each_send fields (IsSameStep (Happens (Send site front)))
      (λ other another h.
      let same = one_number fields most_site other site h.0 given h.1 before in
      let reached : front ≡ another = only another (subst (λ b. SpellsFront b another) same.1 h.3) in
      ap (λ s. Happens (Send s front)) (sym same.0) ∙ ap (λ f. Happens (Send other f)) reached)
      (λ other receiver h. absurd (names_no_site given h.0 none (one_number fields most_site other site (64 ∷ h.0) given h.1 before).1))

  pub no_send_to : (fields given field : List ℕ) (site : ℕ) → IsNumberBefore fields most_site site given
      → given ≡ 64 ∷ field → ((receiver : ℕ) → ¬ IsNumberField field most_site receiver)
      → (step : Step) → ¬ IsReadAfter gate (codes "send") fields step
  no_send_to fields given field site before is none =
      each_send fields (λ _. ⊥)
      (λ other front h. names_no_site h.0 field h.2 (sym is ∙ sym (one_number fields most_site other site h.0 given h.1 before).1))
      (λ other receiver h.
      let same : 64 ∷ h.0 ≡ 64 ∷ field = (one_number fields most_site other site (64 ∷ h.0) given h.1 before).1 ∙ is in
      let tails : h.0 ≡ field = cc in
      none receiver (subst (λ f. IsNumberField f most_site receiver) tails h.2))

  pub send_to_read : (fields given field : List ℕ) (site receiver : ℕ) → IsNumberBefore fields most_site site given
      → given ≡ 64 ∷ field → IsNumberField field most_site receiver
      → (step : Step) → IsReadAfter gate (codes "send") fields step → IsSameStep (SendTo site receiver) step
  send_to_read fields given field site receiver before is number =
      each_send fields (IsSameStep (SendTo site receiver))
      (λ other front h. absurd (names_no_site h.0 field h.2 (sym is ∙ sym (one_number fields most_site other site h.0 given h.1 before).1)))
      (λ other another h.
      let one = one_number fields most_site other site (64 ∷ h.0) given h.1 before in
      let same : 64 ∷ h.0 ≡ 64 ∷ field = one.1 ∙ is in
      let tails : h.0 ≡ field = cc in
      let numbers : another ≡ receiver = h.2.value ∙ ap written_number tails ∙ sym number.value in
      ap (λ s. SendTo s receiver) (sym one.0) ∙ ap (λ r. SendTo other r) (sym numbers))

  -- ---- `deliver`

  pub no_deliver : (fields : List ℕ) → ((packet : ℕ) (rest : List ℕ) → ¬ IsNumberBefore fields most_packet packet rest)
      → (step : Step) → ¬ IsReadAfter gate (codes "deliver") fields step
  no_deliver fields none = each_deliver fields (λ _. ⊥) (λ packet site h. none packet h.0 h.1)

  pub deliver_unread : (fields field : List ℕ) (packet : ℕ) → IsNumberBefore fields most_packet packet field
      → ((site : ℕ) → ¬ IsNumberField field most_site site) → (step : Step)
      → ¬ IsReadAfter gate (codes "deliver") fields step
  deliver_unread fields field packet before none =
      each_deliver fields (λ _. ⊥) (λ other site h. none site (subst (λ f. IsNumberField f most_site site) (one_number fields most_packet other packet h.0 field h.1 before).1 h.2))

  pub deliver_read : (fields field : List ℕ) (packet site : ℕ) → IsNumberBefore fields most_packet packet field
      → IsNumberField field most_site site
      → (step : Step) → IsReadAfter gate (codes "deliver") fields step → IsSameStep (Happens (Deliver packet site)) step
  deliver_read fields field packet site before number =
      each_deliver fields (IsSameStep (Happens (Deliver packet site))) (λ other another h.
      let one = one_number fields most_packet other packet h.0 field h.1 before in
      let numbers : another ≡ site = h.2.value ∙ ap written_number one.1 ∙ sym number.value in
      ap (λ p. Happens (Deliver p site)) (sym one.0) ∙ ap (λ s. Happens (Deliver other s)) (sym numbers))

  -- ---- `restart`

  pub no_restart : (fields : List ℕ) → ((site : ℕ) (rest : List ℕ) → ¬ IsNumberBefore fields most_site site rest)
      → (step : Step) → ¬ IsReadAfter gate (codes "restart") fields step
  no_restart fields none = each_restart fields (λ _. ⊥) (λ site start h. none site h.0 h.1)

  pub restart_unread : (fields field : List ℕ) (site : ℕ) → IsNumberBefore fields most_site site field
      → ((start : ℕ) → ¬ IsNumberField field most_start start) → (step : Step)
      → ¬ IsReadAfter gate (codes "restart") fields step
  restart_unread fields field site before none =
      each_restart fields (λ _. ⊥) (λ other start h. none start (subst (λ f. IsNumberField f most_start start) (one_number fields most_site other site h.0 field h.1 before).1 h.2))

  pub restart_read : (fields field : List ℕ) (site start : ℕ) → IsNumberBefore fields most_site site field
      → IsNumberField field most_start start
      → (step : Step) → IsReadAfter gate (codes "restart") fields step → IsSameStep (Happens (Restart site start)) step
  restart_read fields field site start before number =
      each_restart fields (IsSameStep (Happens (Restart site start))) (λ other another h.
      let one = one_number fields most_site other site h.0 field h.1 before in
      let numbers : another ≡ start = h.2.value ∙ ap written_number one.1 ∙ sym number.value in
      ap (λ s. Happens (Restart s start)) (sym one.0) ∙ ap (λ n. Happens (Restart other n)) (sym numbers))

  -- ---- the words that a site's number follows

  pub no_ready : (fields : List ℕ) → ((site : ℕ) → ¬ IsNumberField fields most_site site) → (step : Step)
      → ¬ IsReadAfter gate (codes "ready") fields step
  no_ready fields none = each_ready fields (λ _. ⊥) (λ site under h. none site h.0)

  -- ---- a script

  pub bad_says_none : (words : List ℕ) (fault : LineFault) → fault ≡ line.Bad
      → ((step : Step) → SaysStep gate words step → fault ≡ line.NoMemory) → SaysNoStep gate words
  bad_says_none words fault is only step said = let e : line.Bad ≡ line.NoMemory = sym is ∙ only step said in cc

  pub speaks : (text : List ℕ) (lines rest : List (ℕ × List ℕ)) (number : ℕ) (first : List ℕ) (sites : ℕ)
      (steps : List Step) (bad : Option ℕ) → lines ≡ spoken text → lines ≡ (number, first) ∷ rest
      → SaysSites first sites → SaySteps gate rest steps bad → SaysScript gate text sites steps bad
  speaks text lines rest number first sites steps bad all is says rests =
      subst (λ l. SpeaksScript gate l sites steps bad) (sym is ∙ all) (says, rests)

  -- the line after those steps says none
  pub ends_badly : (start lines rest : List (ℕ × List ℕ)) (number : ℕ) (words : List ℕ) (steps : List Step)
      → ((more : List Step) (bad : Option ℕ) → SaySteps gate lines more bad → SaySteps gate start (steps ++ more) bad)
      → lines ≡ (number, words) ∷ rest → SaysNoStep gate words → SaySteps gate start steps (Some number)
  ends_badly start lines rest number words steps goes is none =
      let last : SaySteps gate lines [] (Some number) = subst (λ l. SaySteps gate l [] (Some number)) (sym is) (refl, none) in
      subst (λ s. SaySteps gate start s (Some number)) (append-nil steps) (goes [] (Some number) last)

  -- no line comes after those steps
  pub ends_well : (start lines : List (ℕ × List ℕ)) (steps : List Step)
      → ((more : List Step) (bad : Option ℕ) → SaySteps gate lines more bad → SaySteps gate start (steps ++ more) bad)
      → lines ≡ [] → SaySteps gate start steps None
  ends_well start lines steps goes is =
      let last : SaySteps gate lines [] None = subst (λ l. SaySteps gate l [] None) (sym is) refl in
      subst (λ s. SaySteps gate start s None) (append-nil steps) (goes [] None last)

  -- what is read after its word is read of the line
  pub says_step : {E : Type 0} (line word fields : List ℕ) (result : Result Step E) → IsAfterWord line word fields
      → IfOk result (IsReadAfter gate word fields) → IfOk result (SaysStep gate line)
  says_step line word fields (Ok step) is said =
      (fields, subst (λ w. IsAfterWord line w fields) (sym said.0) is, said.1)
  says_step line word fields (Err fault) is said = tt
