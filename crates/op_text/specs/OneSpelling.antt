-- A text spells one body, operation or front at most: an object has one value, and a value one stamp, one deed or one
-- list of entries.
use Rattle.std.specs.Prelude.{◌≡◌, ℕ, ℤ, pos, List, [], ◌∷◌, Option, Some, cond}
use Rattle.std.proofs.Common.{eqb, get_or, unwrap_or, refl, sym, ap, ◌∙◌, subst}
use Rattle.serde_json.specs.Data.{Data, Members, object, array, Items, no_items, item}
use Rattle.replica_core.specs.Front.{Reaches}
use Rattle.replica_core.specs.FrontLaws.{same_reaches}
use Rattle.review_ops.specs.Timestamp.{Timestamp}
use Rattle.review_ops.specs.Deed.{Deed, patch_set, vote, withdraw, abandon, restore, merged, change_of, set_of}
use Rattle.review_ops.specs.Deed.{message_of, parent_of, label_of, voter_of, value_of, kept_deed}
use Rattle.review_ops.specs.Operation.{Operation}
use Rattle.op_text.specs.declared.field.Kind.{Kind}
use Rattle.op_text.specs.declared.field.Kind.TheVariants.{PatchSet, Vote, Withdraw, Abandon, Restore, Merged}
use Rattle.op_text.specs.Field.{name_of}
use Rattle.op_text.specs.Shape.{IsOperationObject, NamesKind}
use Rattle.op_text.specs.Front.{Entry, HoldsEntry, IsEntry, IsList, AreEntries, SpellsEntries, SayFront, SpellsFront}
use Rattle.op_text.specs.Spelling.{kind_of, HoldsDeed, HoldsStamp, SpellsBody, SpellsOperation}

some : {T : Type 0} (x y : T) → Some x ≡ Some y → x ≡ y
some x y e = cc

-- ---- kinds have different names, by their first letter

kind_by : ℕ → Kind
kind_by letter = cond (eqb letter 112) PatchSet (cond (eqb letter 118) Vote (cond (eqb letter 119) Withdraw (cond (eqb letter 97) Abandon (cond (eqb letter 114) Restore Merged))))

kind_by-name_of : (kind : Kind) → kind_by (get_or (name_of kind) 0 0) ≡ kind
unfolding kind_by
kind_by-name_of PatchSet = refl
kind_by-name_of Vote = refl
kind_by-name_of Withdraw = refl
kind_by-name_of Abandon = refl
kind_by-name_of Restore = refl
kind_by-name_of Merged = refl

pub same_kind : (held : Members) (a b : Kind) → NamesKind held a → NamesKind held b → a ≡ b
same_kind held a b p q =
    let names : name_of a ≡ name_of b = some (name_of a) (name_of b) (sym p ∙ q) in
    sym (kind_by-name_of a) ∙ ap (λ name. kind_by (get_or name 0 0)) names ∙ kind_by-name_of b

-- ---- a deed is what its fields are

deed_by : Kind → ℕ → Option ℕ → Option (List ℕ) → Option ℕ → Option (List ℕ) → Option (List ℕ) → Option ℤ → Deed
deed_by PatchSet change set message parent label voter value =
    patch_set change (unwrap_or set 0) (unwrap_or message []) parent
deed_by Vote change set message parent label voter value =
    vote change (unwrap_or set 0) (unwrap_or label []) (unwrap_or voter []) (unwrap_or value (pos 0))
deed_by Withdraw change set message parent label voter value =
    withdraw change (unwrap_or set 0) (unwrap_or label []) (unwrap_or voter [])
deed_by Abandon change set message parent label voter value = abandon change
deed_by Restore change set message parent label voter value = restore change
deed_by Merged change set message parent label voter value = merged change

abbrev fields_of : Deed → Deed
fields_of d =
    deed_by (kind_of d) (change_of d) (set_of d) (message_of d) (parent_of d) (label_of d) (voter_of d) (value_of d)

deed_by-fields : (d : Deed) → fields_of d ≡ d
unfolding deed_by
deed_by-fields (patch_set change set message parent) = refl
deed_by-fields (vote change set label voter value) = refl
deed_by-fields (withdraw change set label voter) = refl
deed_by-fields (abandon change) = refl
deed_by-fields (restore change) = refl
deed_by-fields (merged change) = refl

pub same_deed : (held : Members) (d e : Deed) → HoldsDeed held d → HoldsDeed held e → d ≡ e
same_deed held d e p q =
    let kind = same_kind held (kind_of d) (kind_of e) p.kind q.kind in
    let change = some (change_of d) (change_of e) (sym p.change ∙ q.change) in
    let set = sym p.set ∙ q.set in
    let message = sym p.message ∙ q.message in
    let parent = sym p.parent ∙ q.parent in
    let label = sym p.label ∙ q.label in
    let voter = sym p.voter ∙ q.voter in
    let value = sym p.value ∙ q.value in
    sym (deed_by-fields d)
    ∙ (λ i. deed_by (kind i) (change i) (set i) (message i) (parent i) (label i) (voter i) (value i))
    ∙ deed_by-fields e

same_stamp : (held : Members) (s t : Timestamp) → HoldsStamp held s → HoldsStamp held t → s ≡ t
same_stamp held s t p q =
    let time = some s.time t.time (sym p.time ∙ q.time) in
    let site = some s.site t.site (sym p.site ∙ q.site) in
    let start = some s.start t.start (sym p.start ∙ q.start) in
    let seq = some s.seq t.seq (sym p.seq ∙ q.seq) in
    λ i. record { time = time i; site = site i; start = start i; seq = seq i }

-- ---- a text spells one of each at most

pub same_members : (text : List ℕ) (m n : Members) → IsOperationObject text m → IsOperationObject text n → m ≡ n
same_members text m n p q = let e : Some (object m) ≡ Some (object n) = sym p.value ∙ q.value in cc

pub one_body : (text : List ℕ) (d e : Deed) → SpellsBody text d → SpellsBody text e → d ≡ e
one_body text d e p q =
    let same = same_members text p.0 q.0 p.1.object q.1.object in
    same_deed q.0 d e (subst (λ m. HoldsDeed m d) same p.1.holds) q.1.holds

pub one_operation : (text : List ℕ) (x y : Operation) → SpellsOperation text x → SpellsOperation text y → x ≡ y
one_operation text x y p q =
    let same = same_members text p.members q.members p.spells.object q.spells.object in
    let stamp = same_stamp q.members x.stamp y.stamp (subst (λ m. HoldsStamp m x.stamp) same p.stamp) q.stamp in
    let deed = same_deed q.members p.deed q.deed (subst (λ m. HoldsDeed m p.deed) same p.spells.holds) q.spells.holds in
    let kept = p.kept ∙ ap kept_deed deed ∙ sym q.kept in
    λ i. record { stamp = stamp i; deed = kept i }

-- ---- fronts

one_entry : (value : Data) (a b : Entry) → IsEntry value a → IsEntry value b → a ≡ b
one_entry (array (item site (item start (item count no_items)))) a b p q =
    let sites = some a.0 b.0 (sym p.0 ∙ q.0) in
    let starts = some a.1 b.1 (sym p.2 ∙ q.2) in
    let counts = some a.2 b.2 (sym p.4 ∙ q.4) in
    λ i. (sites i, starts i, counts i)
one_entry value a b p q = absurd p

one_entries : (values : Items) (xs ys : List Entry) → AreEntries values xs → AreEntries values ys → xs ≡ ys
one_entries no_items [] [] p q = refl
one_entries no_items [] (y ∷ ys) p q = absurd q
one_entries no_items (x ∷ xs) ys p q = absurd p
one_entries (item value values) [] ys p q = absurd p
one_entries (item value values) (x ∷ xs) [] p q = absurd q
one_entries (item value values) (x ∷ xs) (y ∷ ys) p q =
    let first = one_entry value x y p.0 q.0 in
    let rest = one_entries values xs ys p.1 q.1 in
    λ i. first i ∷ rest i

same_items : (text : List ℕ) (v w : Items) → IsList text v → IsList text w → v ≡ w
same_items text v w p q = let e : Some (array v) ≡ Some (array w) = sym p.value ∙ q.value in cc

-- entries say one front
pub SayFront-unique : (entries : List Entry) (f g : Reaches) → SayFront entries f → SayFront entries g → f ≡ g
SayFront-unique entries f g say_f say_g = same_reaches f g say_f.reached say_g.reached
    (λ site start. say_f.reaches site start ∙ sym (say_g.reaches site start))

pub one_front : (text : List ℕ) (f g : Reaches) → SpellsFront text f → SpellsFront text g → f ≡ g
one_front text f g p q =
    let values = same_items text p.1.0 q.1.0 p.1.1 q.1.1 in
    let entries = one_entries q.1.0 p.0 q.0 (subst (λ v. AreEntries v p.0) values p.1.2) q.1.2 in
    SayFront-unique q.0 f g (subst (λ e. SayFront e f) entries p.2) q.2
