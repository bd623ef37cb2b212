-- The parts of written texts.
use Rattle.std.proofs.Common.{◌≡◌, ℕ, ◌+◌, ◌-◌, ◌*◌, ◌/◌, ◌%◌, ◌^◌, ◌<◌, ◌≤◌, List, [], ◌∷◌, ◌++◌, Option, Some, None}
use Rattle.std.proofs.Common.{IfSome, SomeIff, Bor, true, leb, length, take, decimal, sym, ap, ◌∙◌, arith}
use Rattle.std.proofs.lemmas.Bool.{and_parts, leb-true}
use Rattle.std.specs.Char.{is_ascii_digit}
use Rattle.std.proofs.lemmas.Fmt.{decimal_step, decimal_digit}
use Rattle.std.proofs.lemmas.List.{get_or-take, length-take}
use Rattle.json.specs.Print.{escape}
use Rattle.json.specs.Run.{is_plain}
use Rattle.json.specs.Written.{PlainBetween}
use Rattle.json.proofs.Printed.Plain.{escape_on_plain}

-- ---- numbers

-- a digit more behind a number that isn't 0
pub decimal-digit_more : (n d : ℕ) → 1 ≤ n → 48 ≤ d → d ≤ 57 → n * 10 + (d - 48) < 2 ^ 64
    → decimal (n * 10 + (d - 48)) ≡ decimal n ++ d ∷ []
decimal-digit_more n d some low high fits =
    let front : (n * 10 + (d - 48)) / 10 ≡ n = omega arith in
    let last : 48 + (n * 10 + (d - 48)) % 10 ≡ d = omega arith in
    let step = decimal_step (n * 10 + (d - 48)) (omega arith) fits in
    rw (front, last) at step

pub with_digit_is : (r : Option ℕ) (product last n d : ℕ)
    → SomeIff r (product + last < 2 ^ 64) (product + last) → product ≡ n * 10 → last ≡ d - 48 → 1 ≤ n
    → is_ascii_digit d ≡ true → IfSome r (λ longer. decimal longer ≡ decimal n ++ d ∷ [])
with_digit_is None product last n d sum ten is some digit = tt
with_digit_is (Some m) product last n d sum ten is some digit =
    let bounds = and_parts (leb 48 d) (leb d 57) digit in
    let low = leb-true 48 d bounds.0 in
    let high = leb-true d 57 bounds.1 in
    let value : m ≡ n * 10 + (d - 48) = sum.1 ∙ (λ k. ten k + is k) in
    let fits : n * 10 + (d - 48) < 2 ^ 64 = omega (arith, sum.0, ten, is) in
    ap decimal value ∙ decimal-digit_more n d some low high fits

-- a number begins with its first digit
pub decimal_is : (r : Option (ℕ × Bor (List ℕ))) (text rest : List ℕ) (first front : ℕ) → text ≡ first ∷ rest
    → front ≡ first - 48 → is_ascii_digit first ≡ true
    → IfSome r (λ x. decimal front ++ rest ≡ decimal x.0 ++ x.1.now)
    → IfSome r (λ x. text ≡ decimal x.0 ++ x.1.now)
decimal_is None text rest first front split value digit h = tt
decimal_is (Some x) text rest first front split value digit h =
    let bounds = and_parts (leb 48 first) (leb first 57) digit in
    let low = leb-true 48 first bounds.0 in
    let high = leb-true first 57 bounds.1 in
    let again : 48 + (first - 48) ≡ first = omega arith in
    let one : decimal front ≡ first ∷ [] =
    ap decimal value ∙ decimal_digit (first - 48) (omega arith) ∙ ap (λ d. d ∷ []) again in
    split ∙ ap (λ l. l ++ rest) (sym one) ∙ h

-- ---- quoted texts

-- bytes that need no escape stand for themselves
pub plain_front : (text : List ℕ) (n : ℕ) → n ≤ length text → PlainBetween text 0 n
    → escape (take n text) ≡ take n text
plain_front text n within plain = escape_on_plain true (take n text) (λ k low high.
    let below : k < n = omega (arith, length-take n text, high) in
    ap is_plain (get_or-take n text k 0 below) ∙ plain k low below)
