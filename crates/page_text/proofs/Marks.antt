-- Tokens that are added to a JSON text for which memory may have been refused.
use Rattle.std.proofs.Common.{◌≡◌, ◌∙◌, ◌+◌, ◌<◌, ℕ, List, [], ◌∷◌, ◌++◌, flat_map, length, take, get_or, ap}
use Rattle.std.proofs.Common.{append-nil, refl, subst, sym}
use Rattle.std.specs.Prelude.{OnOk, Option, None, Some, Result, Ok, Err}
use Rattle.json.specs.Print.{print}
use Rattle.json.specs.Token.{Token, end_object}
use Rattle.json.specs.Written.{Written, Writes}
use Rattle.json_line.specs.Adding.{adds_then, flat_more}
use Rattle.json_line.specs.Tokens.{AddsTokens}
use Rattle.state_core.specs.declared.item.Item.{Item}
use Rattle.page_text.specs.Sheets.{HasNoted, IsBegun, IsWholeSheet, NotesTokens}
use Rattle.page_text.specs.Waiting.{EndsInWaiting, waiting_tokens}
use Rattle.page_text.proofs.Adding.{finished}

pub writes_adds : {E : Type 0} (r : Result (Unit {0}) E) (old new : Written) (t : Token) → Writes r old new t
    → OnOk r (AddsTokens old new (t ∷ []))
writes_adds (Ok u) old new t w = record { before = w.room.0; tokens = w.ok }
writes_adds (Err e) old new t w = tt

has_noted : (a b c : Option Written) (xs ys : List Token) → HasNoted xs a b → HasNoted ys b c → HasNoted (xs ++ ys) a c
has_noted a b None xs ys p q = tt
has_noted a None (Some z) xs ys p q = absurd q
has_noted None (Some y) (Some z) xs ys p q = absurd p
has_noted (Some x) (Some y) (Some z) xs ys p q = adds_then p q

pub notes_then : {a b c : Option Written} {xs ys : List Token} → NotesTokens xs a b → NotesTokens ys b c
    → NotesTokens (xs ++ ys) a c
notes_then {a} {b} {c} {xs} {ys} p q = record { noted = has_noted a b c xs ys p.noted q.noted }

-- the same tokens, under another name
pub notes_same : {a b : Option Written} {xs ys : List Token} → NotesTokens xs a b → xs ≡ ys → NotesTokens ys a b
notes_same {a} {b} p e = subst (λ tokens. NotesTokens tokens a b) e p

-- no token
pub notes_none : (a : Option Written) → NotesTokens [] a a
notes_none None = record { noted = tt }
notes_none (Some w) = record { noted = record { before = refl; tokens = sym (append-nil w.tokens) } }

-- a list's tokens so far, and those of the next one
pub notes_more : {X : Type 0} {a b c : Option Written} (f : X → List Token) (xs : List X) (i : ℕ) (d : X)
    → i < length xs
    → NotesTokens (flat_map f (take i xs)) a b → NotesTokens (f (get_or xs i d)) b c
    → NotesTokens (flat_map f (take (i + 1) xs)) a c
notes_more f xs i d inside p q = notes_same (notes_then p q) (flat_more f xs i d inside)

-- what a text is that began with nothing
whole_text : (a b : Option Written) (xs : List Token) (text : List ℕ) → IsBegun a → HasNoted xs a b
    → IsWholeSheet b text
    → text ≡ print xs
whole_text None b xs text begun p whole = absurd begun
whole_text (Some a) None xs text begun p whole = absurd whole
whole_text (Some a) (Some b) xs text begun p whole = finished begun.0 begun.1 p whole

pub notes_all : (a b : Option Written) {xs : List Token} (text : List ℕ) → IsBegun a → NotesTokens xs a b
    → IsWholeSheet b text
    → text ≡ print xs
notes_all a b {xs} text begun p whole = whole_text a b xs text begun p.noted whole

-- the text ends with the items
ends_so : (items : List Item) (a b : Option Written) (text : List ℕ)
    → HasNoted (waiting_tokens items ++ end_object ∷ []) a b
    → IsWholeSheet b text → EndsInWaiting items text
ends_so items a None text p whole = absurd whole
ends_so items None (Some b) text p whole = absurd p
ends_so items (Some a) (Some b) text p whole = record {
  before = b.before;
  members = a.tokens;
  is = whole ∙ ap (λ t. b.before ++ print t) p.tokens;
}

pub has_waiting : (items : List Item) (a b : Option Written) (text : List ℕ)
    → NotesTokens (waiting_tokens items ++ end_object ∷ []) a b → IsWholeSheet b text → EndsInWaiting items text
has_waiting items a b text p whole = ends_so items a b text p.noted whole
