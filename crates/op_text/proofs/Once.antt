-- What is spelled isn't refused.
use Rattle.std.proofs.Common.{◌≡◌, ℕ, List, Result, Ok, Err, MatchResult, IfOk, IfErr, inl, inr, refl, sym, ◌∙◌, subst}
use Rattle.std.proofs.lemmas.Bool.{false≢true}
use Rattle.serde_json.specs.Data.{Members}
use Rattle.review_ops.specs.Deed.{Deed}
use Rattle.review_ops.specs.Fault.{HasFault, IsFaultless-HasFault}
use Rattle.review_ops.specs.Operation.{Operation}
use Rattle.op_text.specs.declared.fault.OpTextFault.{OpTextFault}
use Rattle.op_text.specs.declared.fault.OpTextFault.TheVariants.{NotJson, BadShape, BadBody, NoMemory}
use Rattle.op_text.specs.declared.field.Form.{Form}
use Rattle.op_text.specs.declared.field.Form.TheVariants as form
use Rattle.op_text.specs.declared.field.Kind.{Kind}
use Rattle.op_text.specs.Shape.{NamesKind, HasShape, IsBadKey, IsNamedKey}
use Rattle.op_text.specs.Spelling.{kind_of, HoldsDeed, SpellsBody, SpellsOperation, IsRefusalOf}
use Rattle.op_text.specs.OneSpelling.{same_kind, same_members, same_deed, one_body, one_operation}

not_bad : (kind : Form) (named : Kind) (held : Members) (key : List ℕ) → HasShape kind named held
    → ¬ IsBadKey kind named held key
not_bad kind named held key shape (inl bad) = false≢true (sym bad.2 ∙ shape.fields bad.0)
not_bad kind named held key shape (inr bad) = bad.0 (shape.only key bad.1)

not_named : (kind : Form) (named : Kind) (held : Members) (key : List ℕ) → NamesKind held named
    → HasShape kind named held → ¬ IsNamedKey kind held key
not_named kind named held key names shape (inl none) = none.0 named names
not_named kind named held key names shape (inr bad) =
    let same = same_kind held bad.0 named bad.1 names in
    not_bad kind named held key shape (subst (λ k. IsBadKey kind k held key) same bad.2.bad)

-- ---- bodies

body_not_refused : (text : List ℕ) (deed : Deed) (fault : OpTextFault) → SpellsBody text deed
    → IsRefusalOf form.Body text fault → fault ≡ NoMemory
body_not_refused text deed NotJson p h = absurd (h p.0 p.1.object)
body_not_refused text deed (BadShape key) p h =
    let same = same_members text p.0 h.0 p.1.object h.1 in
    absurd (not_named form.Body (kind_of deed) h.0 _ (subst (λ m. NamesKind m (kind_of deed)) same p.1.holds.kind) (subst (HasShape form.Body (kind_of deed)) same p.1.shape) h.2)
body_not_refused text deed (BadBody fault) p h = absurd h
body_not_refused text deed NoMemory p h = refl

pub body_is_read : {T : Type 0} (view : T → Deed) (text : List ℕ) (result : Result T OpTextFault)
    → IfOk result (λ x. SpellsBody text (view x)) → IfErr result (IsRefusalOf form.Body text)
    → (deed : Deed) → SpellsBody text deed → MatchResult result (λ x. view x ≡ deed) (λ fault. fault ≡ NoMemory)
body_is_read view text (Ok x) ok err deed p = one_body text (view x) deed ok p
body_is_read view text (Err fault) ok err deed p = body_not_refused text deed fault p err

-- ---- operations

operation_not_refused : (text : List ℕ) (op : Operation) (fault : OpTextFault) → SpellsOperation text op
    → IsRefusalOf form.Operation text fault → fault ≡ NoMemory
operation_not_refused text op NotJson p h = absurd (h p.members p.spells.object)
operation_not_refused text op (BadShape key) p h =
    let same = same_members text p.members h.0 p.spells.object h.1 in
    absurd (not_named form.Operation (kind_of p.deed) h.0 _ (subst (λ m. NamesKind m (kind_of p.deed)) same p.spells.holds.kind) (subst (HasShape form.Operation (kind_of p.deed)) same p.spells.shape) h.2)
operation_not_refused text op (BadBody fault) p h =
    let same = same_members text p.members h.0 p.spells.object h.2.object in
    let deed = same_deed h.0 p.deed h.1 (subst (λ m. HoldsDeed m p.deed) same p.spells.holds) h.2.holds in
    absurd (IsFaultless-HasFault fault p.deed p.faultless (subst (λ d. HasFault fault d) (sym deed) h.3.has))
operation_not_refused text op NoMemory p h = refl

pub operation_is_read : {T : Type 0} (view : T → Operation) (text : List ℕ) (result : Result T OpTextFault)
    → IfOk result (λ x. SpellsOperation text (view x)) → IfErr result (IsRefusalOf form.Operation text)
    → (op : Operation) → SpellsOperation text op → MatchResult result (λ x. view x ≡ op) (λ fault. fault ≡ NoMemory)
operation_is_read view text (Ok x) ok err op p = one_operation text (view x) op ok p
operation_is_read view text (Err fault) ok err op p = operation_not_refused text op fault p err
