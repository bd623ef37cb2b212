-- Lists of values as fronts' entries.
use Rattle.std.proofs.Common.{◌≡◌, ℕ, ◌<◌, zero, suc, List, [], ◌∷◌, ◌++◌, length, get_or, Some, Result, Ok, Err, IfOk}
use Rattle.std.proofs.Common.{IfErr, MatchResult, codes, refl, sym, ◌∙◌, subst, arith}
use Rattle.serde_json.specs.Data.{Data, null, boolean, number, string, array, object, Items, no_items, item}
use Rattle.serde_json.specs.Find.{as_array}
use Rattle.serde_json.specs.View.{view, items_view}
use Rattle.serde_json.specs.declared.value.Value.{Value}
use Rattle.op_text.specs.declared.fault.OpTextFault.{OpTextFault}
use Rattle.op_text.specs.declared.fault.OpTextFault.TheVariants.{NotJson, BadShape, BadBody, NoMemory}
use Rattle.op_text.specs.Field.{number_in}
use Rattle.op_text.specs.Shape.{NamesKey}
use Rattle.op_text.specs.Front.{Entry, HoldsEntry, IsEntry, AreEntries, IsList, SpellsEntries, IsFrontRefusal}

-- an entry's value is a list
entry_items : (value : Data) (values : Items) (entry : Entry) → as_array value ≡ Some values → IsEntry value entry
    → HoldsEntry values entry
entry_items (array found) values entry is h = let same : found ≡ values = cc in subst
    (λ items. HoldsEntry items entry) same h
entry_items null values entry is h = absurd h
entry_items (boolean b) values entry is h = absurd h
entry_items (number n) values entry is h = absurd h
entry_items (string s) values entry is h = absurd h
entry_items (object ms) values entry is h = absurd h

-- it has three items
three_items : (values : List Value) (entry : Entry) → HoldsEntry (items_view values) entry → length values ≡ 3
three_items [] entry h = absurd h
three_items (a ∷ []) entry h = absurd h
three_items (a ∷ b ∷ []) entry h = absurd h
three_items (a ∷ b ∷ c ∷ []) entry h = refl
three_items (a ∷ b ∷ c ∷ d ∷ rest) entry h = absurd h

pub three_values : (value : Data) (values : List Value) (entry : Entry) → as_array value ≡ Some (items_view values)
    → IsEntry value entry → length values ≡ 3
three_values value values entry is h = three_items values entry (entry_items value (items_view values) entry is h)

pub AreEntries-push : (values : List Value) (entries : List Entry) (value : Value) (entry : Entry)
    → AreEntries (items_view values) entries → IsEntry (view value) entry
    → AreEntries (items_view (values ++ value ∷ [])) (entries ++ entry ∷ [])
AreEntries-push [] [] value entry so_far is = (is, tt)
AreEntries-push [] (e ∷ entries) value entry so_far is = absurd so_far
AreEntries-push (v ∷ values) [] value entry so_far is = absurd so_far
AreEntries-push (v ∷ values) (e ∷ entries) value entry so_far is =
    (so_far.0, AreEntries-push values entries value entry so_far.1 is)

-- each value is an entry
pub AreEntries-at : (values : List Value) (entries : List Entry) (i : ℕ) (d : Value) → i < length values
    → AreEntries (items_view values) entries → (entry : Entry) × IsEntry (view (get_or values i d)) entry
AreEntries-at [] entries i d within h = absurd (omega arith)
AreEntries-at (v ∷ values) [] i d within h = absurd h
AreEntries-at (v ∷ values) (e ∷ entries) zero d within h = (e, h.0)
AreEntries-at (v ∷ values) (e ∷ entries) (suc i) d within h = AreEntries-at values entries i d (omega arith) h.1

-- the refusal names the key `front`
pub refuses_front : (text : List ℕ) (fault : OpTextFault) (values : Items) → NamesKey fault (codes "front")
    → IsList text values → ((entries : List Entry) → ¬ AreEntries values entries) → IsFrontRefusal text fault
refuses_front text NotJson values named is none = absurd named
refuses_front text (BadShape key) values named is none = (named, values, is, none)
refuses_front text (BadBody fault) values named is none = absurd named
refuses_front text NoMemory values named is none = tt

-- ---- a text spells one front at most, and what is spelled isn't refused

same_number : (d : Data) (m n : ℕ) → number_in d ≡ Some m → number_in d ≡ Some n → m ≡ n
same_number d m n p q = let e : Some m ≡ Some n = sym p ∙ q in cc

same_entry : (value : Data) (a b : Entry) → IsEntry value a → IsEntry value b → a ≡ b
same_entry (array (item site (item start (item count no_items)))) a b p q =
    let sites = same_number site a.0 b.0 p.0 q.0 in
    let starts = same_number start a.1 b.1 p.2 q.2 in
    let counts = same_number count a.2 b.2 p.4 q.4 in
    λ i. (sites i, starts i, counts i)
same_entry (array no_items) a b p q = absurd p
same_entry (array (item site no_items)) a b p q = absurd p
same_entry (array (item site (item start no_items))) a b p q = absurd p
same_entry (array (item site (item start (item count (item more rest))))) a b p q = absurd p
same_entry null a b p q = absurd p
same_entry (boolean x) a b p q = absurd p
same_entry (number n) a b p q = absurd p
same_entry (string s) a b p q = absurd p
same_entry (object ms) a b p q = absurd p

same_entries : (values : Items) (es fs : List Entry) → AreEntries values es → AreEntries values fs → es ≡ fs
same_entries no_items [] [] p q = refl
same_entries no_items [] (f ∷ fs) p q = absurd q
same_entries no_items (e ∷ es) fs p q = absurd p
same_entries (item v values) [] fs p q = absurd p
same_entries (item v values) (e ∷ es) [] p q = absurd q
same_entries (item v values) (e ∷ es) (f ∷ fs) p q =
    λ i. same_entry v e f p.0 q.0 i ∷ same_entries values es fs p.1 q.1 i

same_list : (text : List ℕ) (u v : Items) → IsList text u → IsList text v → u ≡ v
same_list text u v p q = let e : Some (array u) ≡ Some (array v) = sym p.value ∙ q.value in cc

not_refused : (text : List ℕ) (entries : List Entry) (fault : OpTextFault) → SpellsEntries text entries
    → IsFrontRefusal text fault → fault ≡ NoMemory
not_refused text entries NotJson p h = absurd (h p.0 p.1)
not_refused text entries (BadShape key) p h =
    absurd (h.3 entries (subst (λ values. AreEntries values entries) (same_list text p.0 h.1 p.1 h.2) p.2))
not_refused text entries (BadBody fault) p h = absurd h
not_refused text entries NoMemory p h = refl

pub entries_are_read : (text : List ℕ) (result : Result (List Entry) OpTextFault)
    → IfOk result (SpellsEntries text) → IfErr result (IsFrontRefusal text)
    → (entries : List Entry) → SpellsEntries text entries
    → MatchResult result (λ read. read ≡ entries) (λ fault. fault ≡ NoMemory)
entries_are_read text (Ok read) ok err entries p =
    same_entries p.0 read entries
    (subst (λ values. AreEntries values read) (same_list text ok.0 p.0 ok.1 p.1) ok.2) p.2
entries_are_read text (Err fault) ok err entries p = not_refused text entries fault p err
