-- What a loop of writes or reads has moved so far.
use Rattle.std.proofs.Common.{◌≡◌, ℕ, ◌+◌, ◌<◌, ◌≤◌, List, ◌++◌, length, take, drop, refl, sym, ap, ◌∙◌, subst, arith}
use Rattle.std.proofs.Common.{append_assoc, length-append, take-append-drop, Option}
use Rattle.std.proofs.lemmas.List.{take_at}
use Rattle.std.specs.Io.KnownBytes.{Appends, Consumes, Keeps}
use Rattle.std.proofs.KnownBytes.{Appends-trans, Appends-kept, Consumes-trans}

module _ (a b c : Option (List ℕ)) (bytes front rest : List ℕ) (whole : bytes ≡ front ++ rest)
    (took : Appends a b front) where
  -- the drain takes a front of the rest too
  pub took_more : (n : ℕ) (after : List ℕ) → after ≡ drop n rest → Appends b c (take n rest)
      → (x : List ℕ) × (bytes ≡ x ++ after) × Appends a c x
  took_more n after is more = (
    front ++ take n rest,
    whole ∙ ap (λ l. front ++ l) (sym (take-append-drop n rest)) ∙ sym (append_assoc front (take n rest) (drop n rest))
        ∙ ap (λ l. (front ++ take n rest) ++ l) (sym is),
    Appends-trans a b c front (take n rest) took more,
  )

  -- the drain takes no more
  pub took_front : 0 < length rest → Keeps b c → (n : ℕ) × (n < length bytes) × Appends a c (take n bytes)
  took_front some kept =
      let front_is : take (length front) bytes ≡ front = ap (take (length front)) whole ∙ take_at front rest _ refl in (
        length front,
        omega (arith, ap length whole, length-append front rest),
        subst (Appends a c) (sym front_is) (Appends-kept a b c front took kept),
      )

-- a read goes on from what was read
pub read_more : (a b c : Option (List ℕ)) (old part : List ℕ) (limit : ℕ) → Consumes a b old → Consumes b c part
    → length old + length part ≤ limit + 1 → (x : List ℕ) × (length x ≤ limit + 1) × Consumes a c x
read_more a b c old part limit before now short =
    (old ++ part, omega (arith, length-append old part), Consumes-trans a b c old part before now)
