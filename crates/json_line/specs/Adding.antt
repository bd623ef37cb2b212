-- Tokens that are added one after another.
use Rattle.std.specs.Fmt.{signed_decimal}
use Rattle.std.specs.Prelude.{◌≡◌, ℕ, ℤ, List, [], ◌∷◌, ◌++◌, ◌<◌, ◌+◌, decimal, flat_map, length, take}
use Rattle.std.proofs.Common.{◌∙◌, get_or, ap, sym, subst, append_assoc, append-nil}
use Rattle.std.proofs.lemmas.List.{take_more}
use Rattle.std.proofs.lemmas.List.Concat.{flat_map-append}
use Rattle.json.specs.Token.{Token, key, number, string}
use Rattle.json.specs.Written.{Written}
use Rattle.json_line.specs.Tokens.{AddsTokens, json_line, numbered_tokens, signed, worded}

pub adds_then : {a b c : Written} {xs ys : List Token} → AddsTokens a b xs → AddsTokens b c ys
    → AddsTokens a c (xs ++ ys)
adds_then {a} {b} {c} {xs} {ys} p q = record {
  before = q.before ∙ p.before;
  tokens = q.tokens ∙ ap (λ l. l ++ ys) p.tokens ∙ append_assoc a.tokens xs ys;
}

-- the same tokens, under another name
pub adds_same : {a b : Written} {xs ys : List Token} → AddsTokens a b xs → xs ≡ ys → AddsTokens a b ys
adds_same {a} {b} p e = subst (AddsTokens a b) e p

pub counted_tokens : {a b : Written} {name : List ℕ} {n m : ℕ} → AddsTokens a b (numbered_tokens name n) → n ≡ m
    → AddsTokens a b (numbered_tokens name m)
counted_tokens {a} {b} {name} p e = subst (λ n. AddsTokens a b (key name ∷ number (decimal n) ∷ [])) e p

pub signed_so : {a b : Written} {name : List ℕ} {n m : ℤ} → AddsTokens a b (signed name n) → n ≡ m
    → AddsTokens a b (signed name m)
signed_so {a} {b} {name} p e = subst (λ n. AddsTokens a b (key name ∷ number (signed_decimal n) ∷ [])) e p

pub texted : {a b : Written} {name text other : List ℕ} → AddsTokens a b (worded name text) → text ≡ other
    → AddsTokens a b (worded name other)
texted {a} {b} {name} p e = subst (λ t. AddsTokens a b (key name ∷ string t ∷ [])) e p

-- what a writer has that began with nothing
pub all_written : {a b : Written} {xs : List Token} → a.tokens ≡ [] → AddsTokens a b xs → b.tokens ≡ xs
all_written {a} {b} {xs} tokens p = p.tokens ∙ ap (λ l. l ++ xs) tokens

-- the line of a writer that began with nothing
pub finished : {a b : Written} {xs : List Token} {line : List ℕ} → a.tokens ≡ [] → AddsTokens a b xs
    → line ≡ json_line b.tokens → line ≡ json_line xs
finished tokens p is = is ∙ ap json_line (all_written tokens p)

pub begun : {a b : Written} {xs : List Token} → a.before ≡ [] → AddsTokens a b xs → b.before ≡ []
begun before p = p.before ∙ before

-- one more
pub flat_more : {X Y : Type 0} (f : X → List Y) (xs : List X) (i : ℕ) (d : X) → i < length xs
    → flat_map f (take i xs) ++ f (get_or xs i d) ≡ flat_map f (take (i + 1) xs)
flat_more f xs i d inside =
    sym (ap (flat_map f) (take_more xs i d inside) ∙ flat_map-append f (take i xs) (get_or xs i d ∷ [])
    ∙ ap (λ l. flat_map f (take i xs) ++ l) (append-nil (f (get_or xs i d))))
