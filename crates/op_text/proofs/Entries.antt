-- An object's entries beside its members.
use Rattle.std.proofs.Common.{◌≡◌, ◌≢◌, ◌⊎◌, inl, inr, ℕ, List, [], ◌∷◌, ◌++◌, cond, Option, Some, IsSome, Less, Equal}
use Rattle.std.proofs.Common.{Greater, Ordering, String, Global, string_bytes, string_cmp, is_eq, refl, sym, ap, ◌∙◌}
use Rattle.std.proofs.Common.{subst}
use Rattle.std.proofs.lemmas.Cmp.{nat_list_cmp_total, tied_itself}
use Rattle.std.proofs.lemmas.Map.Lookups.{exact_bytes}
use Rattle.std.specs.Cmp.Lexicographic.{slice_cmp}
use Rattle.std.specs.Ordering.{nat_cmp, match_ordering}
use Rattle.std.specs.List.{AllByRecursion}
use Rattle.std.specs.List.Sorted.{IsStrictlySortedBy}
use Rattle.std.specs.Map.{keys_of, remove_entry}
use Rattle.std.specs.BTreeMap.{is_at}
use Rattle.serde_json.specs.Data.{Data}
use Rattle.serde_json.specs.Find.{get_member}
use Rattle.serde_json.specs.View.{view, members_view}
use Rattle.serde_json.specs.declared.value.Value.{Value}
use Rattle.op_text.specs.Shape.{IsFieldKey}
use Rattle.serde_json.proofs.Views.{member_here, member_later}

abbrev pub Entry : Type 0
Entry = String Global × Value

-- a list has a text
abbrev pub Has : List (String Global) → List ℕ → Type 0
Has [] text = ⊥
Has (k ∷ ks) text = (string_bytes k ≡ text) ⊎ Has ks text

-- what is found has a key
found_key : (o : Ordering) (k : String Global) (ks : List (String Global)) (text : List ℕ) (d : Data)
    (rest : Option Data)
    → slice_cmp nat_cmp text (string_bytes k) ≡ o → (IsSome rest → Has ks text)
    → IsSome (match_ordering o rest (Some d) rest) → Has (k ∷ ks) text
found_key Less k ks text d rest is later h = inr (later h)
found_key Equal k ks text d rest is later h = inl (sym (exact_bytes text (string_bytes k) is))
found_key Greater k ks text d rest is later h = inr (later h)

pub Has-found : (es : List Entry) (text : List ℕ) → IsSome (get_member text (members_view es)) → Has (keys_of es) text
Has-found [] text h = cc
Has-found (e ∷ es) text h =
    found_key _ e.0 (keys_of es) text (view e.1) (get_member text (members_view es)) refl (Has-found es text) h

-- a key is found
here_or_later : (o : Ordering) (d : Data) (rest : Option Data) → IsSome rest
    → IsSome (match_ordering o rest (Some d) rest)
here_or_later Less d rest h = h
here_or_later Equal d rest h = refl
here_or_later Greater d rest h = h

pub found_Has : (es : List Entry) (text : List ℕ) → Has (keys_of es) text → IsSome (get_member text (members_view es))
found_Has [] text h = elim h [ ]
found_Has (e ∷ es) text (inl h) = subst IsSome (sym (member_here text e es (sym h))) refl
found_Has (e ∷ es) text (inr h) = here_or_later (slice_cmp nat_cmp text (string_bytes e.0)) (view e.1)
    (get_member text (members_view es)) (found_Has es text h)

-- what is below a key of a sorted list comes before it
above : (k : String Global) (ks : List (String Global)) (text : List ℕ) → AllByRecursion (λ y. string_cmp k y ≡ Less) ks
    → Has ks text → slice_cmp nat_cmp (string_bytes k) text ≡ Less
above k [] text h has = elim has [ ]
above k (x ∷ ks) text h (inl e) = subst (λ t. slice_cmp nat_cmp (string_bytes k) t ≡ Less) e h.0
above k (x ∷ ks) text h (inr e) = above k ks text h.1 e

not_below_itself : (text : List ℕ) → slice_cmp nat_cmp text text ≡ Less → ⊥
not_below_itself text less = let e : Less ≡ Equal = sym less ∙ tied_itself nat_list_cmp_total text in cc

pub Has-before : (done : List (String Global)) (k : String Global) (rest : List (String Global)) (text : List ℕ)
    → IsStrictlySortedBy string_cmp (done ++ k ∷ rest) → slice_cmp nat_cmp text (string_bytes k) ≡ Less
    → Has (done ++ k ∷ rest) text → Has done text
unfolding IsStrictlySortedBy
Has-before [] k rest text sorted less (inl h) =
    absurd (not_below_itself text (subst (λ t. slice_cmp nat_cmp text t ≡ Less) h less))
Has-before [] k rest text sorted less (inr h) = absurd
    (not_below_itself text (nat_list_cmp_total.trans text (string_bytes k) text less (above k rest text sorted.0 h)))
Has-before (d ∷ done) k rest text sorted less (inl h) = inl h
Has-before (d ∷ done) k rest text sorted less (inr h) = inr (Has-before done k rest text sorted.1 less h)

-- ---- without an entry

apart : (o : Ordering) (q k : List ℕ) (e : Entry) (es more : List Entry) → slice_cmp nat_cmp k (string_bytes e.0) ≡ o
    → q ≢ k
    → get_member q (members_view more) ≡ get_member q (members_view es)
    → get_member q (members_view (cond (is_eq o) es (e ∷ more))) ≡ get_member q (members_view (e ∷ es))
apart Less q k e es more is other later =
    ap (λ r. match_ordering (slice_cmp nat_cmp q (string_bytes e.0)) r (Some (view e.1)) r) later
apart Equal q k e es more is other later =
    sym (member_later q e es (λ h. other (h ∙ sym (exact_bytes k (string_bytes e.0) is))))
apart Greater q k e es more is other later =
    ap (λ r. match_ordering (slice_cmp nat_cmp q (string_bytes e.0)) r (Some (view e.1)) r) later

-- removing a key leaves what is under every other
pub get_member-remove_entry : (q k : List ℕ) (es : List Entry) → q ≢ k
    → get_member q (members_view (remove_entry (is_at (λ (x : String Global). slice_cmp nat_cmp k (string_bytes x))) es)) ≡ get_member q (members_view es)
get_member-remove_entry q k [] other = refl
get_member-remove_entry q k (e ∷ es) other = apart _ q k e es _ refl other (get_member-remove_entry q k es other)

-- ---- keys that are fields'

abbrev pub AreFieldKeys : List (String Global) → Type 0
AreFieldKeys [] = Unit {0}
AreFieldKeys (k ∷ ks) = IsFieldKey (string_bytes k) × AreFieldKeys ks

pub AreFieldKeys-has : (ks : List (String Global)) (text : List ℕ) → AreFieldKeys ks → Has ks text → IsFieldKey text
AreFieldKeys-has [] text named h = elim h [ ]
AreFieldKeys-has (k ∷ ks) text named (inl h) = subst IsFieldKey h named.0
AreFieldKeys-has (k ∷ ks) text named (inr h) = AreFieldKeys-has ks text named.1 h

pub AreFieldKeys-push : (ks : List (String Global)) (k : String Global) → AreFieldKeys ks → IsFieldKey (string_bytes k)
    → AreFieldKeys (ks ++ k ∷ [])
AreFieldKeys-push [] k named h = (h, tt)
AreFieldKeys-push (x ∷ ks) k named h = (named.0, AreFieldKeys-push ks k named.1 h)

pub Has-middle : (done : List (String Global)) (k : String Global) (rest : List (String Global))
    → Has (done ++ k ∷ rest) (string_bytes k)
Has-middle [] k rest = inl refl
Has-middle (d ∷ done) k rest = inr (Has-middle done k rest)

-- ---- a walk over the keys

pub key_found : (es : List Entry) (done rest : List (String Global)) (k : String Global) → done ++ k ∷ rest ≡ keys_of es
    → IsSome (get_member (string_bytes k) (members_view es))
key_found es done rest k split =
    found_Has es (string_bytes k) (subst (λ ks. Has ks (string_bytes k)) split (Has-middle done k rest))

pub named_before : (es : List Entry) (done rest : List (String Global)) (k : String Global)
    → IsStrictlySortedBy string_cmp (keys_of es) → done ++ k ∷ rest ≡ keys_of es → AreFieldKeys done
    → (other : List ℕ) → slice_cmp nat_cmp other (string_bytes k) ≡ Less → IsSome (get_member other (members_view es))
    → IsFieldKey other
named_before es done rest k sorted split named other less found =
    let in_all = subst (λ ks. Has ks other) (sym split) (Has-found es other found) in
    let in_order = subst (IsStrictlySortedBy string_cmp) (sym split) sorted in
    AreFieldKeys-has done other named (Has-before done k rest other in_order less in_all)

pub named_all : (es : List Entry) (done : List (String Global)) → done ≡ keys_of es → AreFieldKeys done
    → (text : List ℕ) → IsSome (get_member text (members_view es)) → IsFieldKey text
named_all es done all named text found =
    AreFieldKeys-has done text named (subst (λ ks. Has ks text) (sym all) (Has-found es text found))
