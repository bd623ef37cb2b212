-- The fronts of its bytes that a tape in memory has.
use Rattle.std.proofs.Common.{◌≡◌, ℕ, suc, zero, ◌+◌, ◌-◌, ◌≤◌, min, Bool, true, false, List, [], ◌∷◌, ◌++◌, length}
use Rattle.std.proofs.Common.{take, drop, if◌then◌else◌, refl, sym, ap, ◌∙◌, subst, arith, append_assoc, append-nil}
use Rattle.std.proofs.Common.{take-append-drop}
use Rattle.std.proofs.lemmas.List.{take_all, take-append-le, length-take, length-drop, drop-take}
use Rattle.std.proofs.Math.Seq.{drop-nil}
use Rattle.site_journal.specs.Prefixes.{IsPrefix}
use Rattle.site_journal.specs.Tape.{Image, IsSettled, Grows, Steadies, Shrinks}
use Rattle.site_journal.proofs.Bytes.{prefix-refl}

-- the front of a front
pub takes : (k n m : ℕ) (xs : List ℕ) → k ≡ min m n → take n (take m xs) ≡ take k xs
takes zero zero m xs e = refl
takes (suc k) zero m xs e = absurd (omega (arith, e))
takes zero (suc n) zero xs e = refl
takes (suc k) (suc n) zero xs e = absurd (omega (arith, e))
takes zero (suc n) (suc m) xs e = absurd (omega (arith, e))
takes (suc k) (suc n) (suc m) [] e = refl
takes (suc k) (suc n) (suc m) (x ∷ xs) e = ap (λ l. x ∷ l) (takes k n m xs (omega (arith, e)))

front_is : (n : ℕ) (xs : List ℕ) → IsPrefix (take n xs) xs
front_is n xs = (drop n xs, sym (take-append-drop n xs))

front_of : (n m : ℕ) (xs : List ℕ) → n ≤ m → IsPrefix (take n xs) (take m xs)
front_of n m xs le = subst (λ l. IsPrefix l (take m xs)) (takes n n m xs (omega (arith, le))) (front_is n (take m xs))

abbrev pub shown : List ℕ → ℕ → ℕ → Bool → Image
shown xs len synced doubted =
    record { contents = take len xs; synced = take synced xs; written = xs; doubted = doubted }

-- ---- a sync

pub settled : (xs ys : List ℕ) (synced len : ℕ) (doubted : Bool) → synced ≤ len → ys ≡ take len xs
    → Steadies (shown xs len synced doubted) (shown ys len len doubted)
    × (doubted ≡ false → IsSettled (shown ys len len doubted))
settled xs ys synced len doubted le e =
    let same : take len ys ≡ take len xs = ap (take len) e ∙ takes len len len xs (omega arith) in (
      record {
        contents = same;
        least = subst (IsPrefix (take synced xs)) (sym same) (front_of synced len xs le);
        most = subst (λ l. IsPrefix l xs) (sym e) (front_is len xs);
      },
      λ trusted. record { synced = refl; written = e ∙ sym same; trusted = trusted },
    )

-- ---- a cut

pub uncut : (xs : List ℕ) (len old synced : ℕ) (doubted : Bool)
    → Shrinks len (shown xs old synced doubted) (shown xs old synced doubted)
uncut xs len old synced doubted = record {
  least = front_is len (take old xs);
  most = prefix-refl (take old xs);
  synced = front_is len (take synced xs);
  written = prefix-refl xs;
  doubted = refl;
}

pub cut_to : (xs : List ℕ) (len old synced synced' : ℕ) (doubted : Bool) → len ≤ length (take old xs)
    → synced' ≡ min synced len
    → Shrinks len (shown xs old synced doubted) (shown xs len synced' doubted) × (take len xs ≡ take len (take old xs))
cut_to xs len old synced synced' doubted le e =
    let within : len ≤ old = omega (arith, le, length-take old xs) in
    let same : take len (take old xs) ≡ take len xs = takes len len old xs (omega (arith, within)) in (
      record {
        least = subst (IsPrefix (take len (take old xs))) same (prefix-refl (take len (take old xs)));
        most = front_of len old xs within;
        synced = subst (IsPrefix (take len (take synced xs))) (takes synced' len synced xs e)
            (prefix-refl (take len (take synced xs)));
        written = prefix-refl xs;
        doubted = refl;
      },
      sym same,
    )

-- ---- an append that tears

torn_part : (is_done : Bool) (xs part : List ℕ)
    → (rest : List ℕ) × ((if is_done then xs ++ part else xs) ≡ xs ++ rest) × IsPrefix rest part
torn_part true xs part = (part, refl, prefix-refl part)
torn_part false xs part = ([], sym (append-nil xs), (part, refl))

pub torn : (is_done : Bool) (xs ys bytes part : List ℕ) (len synced n len' : ℕ) (doubted : Bool) → xs ≡ take len xs
    → synced ≤ length xs → part ≡ take n bytes
    → ys ≡ (if is_done then xs ++ part else xs) → len' ≡ length ys
    → Grows bytes (shown xs len synced doubted) (shown ys len' synced doubted)
torn is_done xs ys bytes part len synced n len' doubted whole le cut e count =
    let p = torn_part is_done xs part in
    let is : ys ≡ xs ++ p.0 = e ∙ p.1 in
    let all : take len' ys ≡ ys = take_all len' ys (omega (arith, count)) in
    let b = front_is n bytes in record {
      begins = (p.0, all ∙ is ∙ ap (λ l. l ++ p.0) whole);
      within = subst (λ l. IsPrefix l ys) (sym all) (prefix-refl ys);
      most = (
        p.2.0 ++ b.0,
        ap (λ l. take len xs ++ l) (b.1 ∙ ap (λ l. l ++ b.0) (sym cut ∙ p.2.1) ∙ append_assoc p.0 p.2.0 b.0)
            ∙ ap (λ l. l ++ (p.0 ++ (p.2.0 ++ b.0))) (sym whole)
            ∙ sym (append_assoc xs p.0 (p.2.0 ++ b.0))
            ∙ ap (λ l. l ++ (p.2.0 ++ b.0)) (sym is),
      );
      synced = ap (take synced) is ∙ take-append-le synced xs p.0 le;
      doubted = refl;
    }

-- ---- a read

drops : (n m : ℕ) (xs : List ℕ) → drop n (drop m xs) ≡ drop (m + n) xs
drops n zero xs = let e : n ≡ 0 + n = omega arith in ap (λ k. drop k xs) e
drops n (suc m) [] = drop-nil n ∙ sym (drop-nil (suc m + n))
drops n (suc m) (x ∷ xs) = let e : suc (m + n) ≡ suc m + n = omega arith in drops n m xs ∙ ap (λ k. drop k (x ∷ xs)) e

drop_to : (k j : ℕ) (xs : List ℕ) → k ≡ min j (length xs) → drop k xs ≡ drop j xs
drop_to zero zero xs e = refl
drop_to (suc k) zero xs e = absurd (omega (arith, e))
drop_to zero (suc j) [] e = refl
drop_to (suc k) (suc j) [] e = absurd (omega (arith, e))
drop_to zero (suc j) (x ∷ xs) e = absurd (omega (arith, e))
drop_to (suc k) (suc j) (x ∷ xs) e = drop_to k j xs (omega (arith, e))

module _ (xs slice rest : List ℕ) (at at' len count : ℕ) (within : len ≤ length xs) (least : at' ≡ min at len)
    (cut : slice ≡ take (len - at') (drop at' xs)) (after : rest ≡ drop count slice) where
  all_length : length (take len xs) ≡ len
  all_length = length-take len xs ∙ omega (arith, within)

  slice_is : slice ≡ drop at' (take len xs)
  slice_is = cut ∙ sym (drop-take at' (len - at') xs) ∙ ap (λ k. drop at' (take k xs)) (omega (arith, least))

  rest_is : rest ≡ drop (at' + count) (take len xs)
  rest_is = after ∙ ap (drop count) slice_is ∙ drops count at' (take len xs)

  pub left_is : drop (len - length rest) (take len xs) ≡ rest
  left_is =
      drop_to (len - length rest) (at' + count) (take len xs)
      (omega (arith, ap length rest_is, length-drop (at' + count) (take len xs), all_length))
      ∙ sym rest_is

  pub read_front : (part : List ℕ) → slice ≡ part ++ rest
      → drop at (take len xs) ≡ part ++ drop (len - length rest) (take len xs)
  read_front part is =
      sym (drop_to at' at (take len xs) (omega (arith, least, all_length)))
      ∙ sym slice_is ∙ is ∙ ap (λ l. part ++ l) (sym left_is)
