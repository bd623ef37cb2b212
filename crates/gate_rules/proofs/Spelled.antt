-- What the fault of a gate shows of its text, and what is spelled is so.
use Rattle.std.proofs.Common.{◌≡◌, ℕ, List, Bool, true, Some, None, is_some, Result, Ok, Err, IfOk, IfErr, MatchResult}
use Rattle.std.proofs.Common.{codes, refl, sym, ap, ◌∙◌, subst, inr}
use Rattle.std.proofs.lemmas.Bool.{false≢true}
use Rattle.std.specs.Prelude.{IsTrue, false}
use Rattle.serde_json.specs.Data.{Members, array, object}
use Rattle.serde_json.specs.Find.{get_member}
use Rattle.gate_rules.specs.declared.fault.GateFault.{GateFault}
use Rattle.gate_rules.specs.declared.fault.GateFault.TheVariants.{NotJson, UnknownKey, BadValue, BadBases, Unsupported}
use Rattle.gate_rules.specs.declared.fault.GateFault.TheVariants.{NoMemory}
use Rattle.gate_rules.specs.declared.bad_base.BadBase.{BadBase}
use Rattle.gate_rules.specs.declared.walk.Flaw.TheVariants.{Bad}
use Rattle.gate_rules.specs.BadItems.{IsBadItem}
use Rattle.gate_rules.specs.Rules.{GateRules}
use Rattle.gate_rules.specs.Reading.{HasBases, texts_of, list_of, gate_of}
use Rattle.gate_rules.specs.Walk.{Fault, gate_fault}
use Rattle.gate_rules.specs.Spelling.{IsBadBase, IsObject, SpellsGate, IsFirstFault, IsRefusalOf, IsUnread}
use Rattle.gate_rules.specs.Spelling.{NamesFault, NamesItem}

pub refused_by : (text : List ℕ) (fault : GateFault) (found : Fault) → NamesFault fault found
    → (first : IsFirstFault text found) → ((bad : BadBase) → fault ≡ BadBases bad → IsBadItem first.members bad)
    → IsRefusalOf text fault
refused_by text (NotJson place) found names first item = absurd names
refused_by text (UnknownKey key) found names first item = subst (IsFirstFault text) (sym names) first
refused_by text (BadValue key) found names first item = subst (IsFirstFault text) (sym names) first
refused_by text (BadBases bad) found names first item = record {
  fault = record {
    members = first.members;
    is_object = first.is_object;
    has_bases = first.has_bases;
    bases = first.bases;
    first = first.first ∙ ap Some (sym names);
  };
  item = item bad refl;
}
refused_by text (Unsupported key) found names first item = subst (IsFirstFault text) (sym names) first
refused_by text NoMemory found names first item = tt

-- ---- a text spells one gate at most, and has no fault then

same_members : (text : List ℕ) (a b : Members) → IsObject text a → IsObject text b → a ≡ b
same_members text a b p q = let e : Some (object a) ≡ Some (object b) = sym p.value ∙ q.value in cc

same_items : (a b : Members) (xs ys : List (List ℕ)) → a ≡ b → (p : HasBases a xs) (q : HasBases b ys)
    → p.items ≡ q.items
same_items a b xs ys same p q = let e : Some (array p.items) ≡ Some (array q.items) = sym p.list ∙ ap (get_member (codes "bases")) same ∙ q.list in cc

same_bases : (a b : Members) (xs ys : List (List ℕ)) → a ≡ b → HasBases a xs → HasBases b ys → xs ≡ ys
same_bases a b xs ys same p q =
    p.same ∙ ap (λ items. texts_of (list_of items)) (same_items a b xs ys same p q) ∙ sym q.same

same_gate : (text : List ℕ) (a b : GateRules) → SpellsGate text a → SpellsGate text b → a ≡ b
same_gate text a b p q =
    let same = same_members text p.members q.members p.is_object q.is_object in
    let bases = same_bases p.members q.members a.bases b.bases same p.bases q.bases in
    p.rules ∙ (λ i. gate_of (same i) (bases i)) ∙ sym q.rules

has_both : (has : Bool) (members : Members) (found : Fault) → IsTrue has → gate_fault has members ≡ Some found
    → gate_fault true members ≡ None → ⊥
has_both has members found is some none =
    false≢true (sym (ap is_some (sym some ∙ ap (λ b. gate_fault b members) is ∙ none)))

no_fault : (text : List ℕ) (gate : GateRules) (found : Fault) → SpellsGate text gate → ¬ IsFirstFault text found
no_fault text gate found p h =
    let same = same_members text p.members h.members p.is_object h.is_object in
    has_both h.has_bases h.members found
    (h.bases.1 (gate.bases, subst (λ ms. HasBases ms gate.bases) same p.bases)) h.first
    (subst (λ ms. gate_fault true ms ≡ None) same p.faultless)

only_memory : (text : List ℕ) (gate : GateRules) (fault : GateFault) → SpellsGate text gate → IsRefusalOf text fault
    → fault ≡ NoMemory
only_memory text gate (NotJson place) p h = absurd (h.none p.members p.is_object)
only_memory text gate (UnknownKey key) p h = absurd (no_fault text gate _ p h)
only_memory text gate (BadValue key) p h = absurd (no_fault text gate _ p h)
only_memory text gate (BadBases bad) p h = absurd (no_fault text gate _ p h.fault)
only_memory text gate (Unsupported key) p h = absurd (no_fault text gate _ p h)
only_memory text gate NoMemory p h = refl

pub gate_is_read : {T : Type 0} (shown : T → GateRules) (text : List ℕ) (result : Result T GateFault)
    → IfOk result (λ x. SpellsGate text (shown x)) → IfErr result (IsRefusalOf text)
    → (gate : GateRules) → SpellsGate text gate → MatchResult result (λ x. shown x ≡ gate) (λ fault. fault ≡ NoMemory)
gate_is_read shown text (Ok x) ok err gate p = same_gate text (shown x) gate ok p
gate_is_read shown text (Err fault) ok err gate p = only_memory text gate fault p err

-- ---- the item of the bases that is refused

-- two tests of the same
same_answer : (a b : Bool) → (IsTrue a → IsTrue b) → (IsTrue b → IsTrue a) → a ≡ b
same_answer true true there back = refl
same_answer true false there back = absurd (false≢true (there refl))
same_answer false true there back = absurd (false≢true (back refl))
same_answer false false there back = refl

-- a text has one first fault
same_fault : (text : List ℕ) (one other : Fault) → IsFirstFault text one → IsFirstFault text other → one ≡ other
same_fault text one other p q =
    let same = same_members text p.members q.members p.is_object q.is_object in
    let has : p.has_bases ≡ q.has_bases = same_answer p.has_bases q.has_bases
    (λ is. let found = p.bases.0 is in q.bases.1 (found.0, subst (λ ms. HasBases ms found.0) same found.1))
    (λ is. let found = q.bases.0 is in p.bases.1 (found.0, subst (λ ms. HasBases ms found.0) (sym same) found.1)) in
    let both : Some one ≡ Some other = sym p.first ∙ (λ i. gate_fault (has i) (same i)) ∙ q.first in cc

-- it is an item of these members
item_here : (text : List ℕ) (members : Members) (bad : BadBase) → IsObject text members → IsBadBase text bad
    → IsBadItem members bad
item_here text members bad is_object h =
    subst (λ ms. IsBadItem ms bad) (same_members text h.fault.members members h.fault.is_object is_object) h.item

pub item_of_fault : (text : List ℕ) (found : Fault) (first : IsFirstFault text found) (fault : GateFault)
    → ((bad : BadBase) → found.0 ≡ Bad → found.1 ≡ codes "bases" → IsBadItem first.members bad → NamesItem fault bad)
    → (bad : BadBase) → IsBadBase text bad → NamesItem fault bad
item_of_fault text found first fault named bad h =
    let same = same_fault text found (Bad, codes "bases") first h.fault in
    named bad (ap (λ (f : Fault). f.0) same) (ap (λ (f : Fault). f.1) same) (item_here text first.members bad first.is_object h)

pub item_unread : (text : List ℕ) (fault : GateFault) → IsRefusalOf text fault → IsUnread fault
    → (bad : BadBase) → IsBadBase text bad → NamesItem fault bad
item_unread text (NotJson place) refusal unread bad h = absurd (refusal.none h.fault.members h.fault.is_object)
item_unread text (UnknownKey key) refusal unread bad h = absurd unread
item_unread text (BadValue key) refusal unread bad h = absurd unread
item_unread text (BadBases other) refusal unread bad h = absurd unread
item_unread text (Unsupported key) refusal unread bad h = absurd unread
item_unread text NoMemory refusal unread bad h = inr refl

pub item_is_named : {T : Type 0} (shown : T → GateRules) (text : List ℕ) (result : Result T GateFault)
    → IfOk result (λ x. SpellsGate text (shown x))
    → IfErr result (λ fault. (bad : BadBase) → IsBadBase text bad → NamesItem fault bad)
    → (bad : BadBase) → IsBadBase text bad → MatchResult result (λ x. ⊥) (λ fault. NamesItem fault bad)
item_is_named shown text (Ok x) ok err bad h = no_fault text (shown x) (Bad, codes "bases") ok h.fault
item_is_named shown text (Err fault) ok err bad h = err bad h
