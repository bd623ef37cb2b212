-- What the lines so far add.
use Rattle.std.proofs.Common.{◌≡◌, ◌↔◌, ℕ, List, [], ◌∷◌, ◌++◌, Contains, refl, sym, ap, subst, inl, inr, eqb}
use Rattle.std.specs.List.Retain.{IsFiltered, DiffersFromLast}
use Rattle.std.specs.List.Sorted.{IsPermutation, IsSorted, IsStrictlyIncreasing}
use Rattle.std.specs.Ordering.{nat_cmp}
use Rattle.std.proofs.lemmas.List.Filters.{dedup_is}
use Rattle.std.proofs.lemmas.List.Kept.{Contains-dedup_nat, Contains-from_dedup}
use Rattle.std.proofs.lemmas.List.Sorted.{Contains-permutation, IsPermutation-sym}
use Rattle.std.proofs.lemmas.Map.Keys.{IsStrictlyIncreasing-dedup}
use Rattle.std.proofs.lemmas.List.Elements.{Contains-push, Contains-push_cases, Contains-append_left}
use Rattle.footer_text.specs.Lines.{IsFooter, lines_of}
use Rattle.footer_text.specs.LineLaws.{IsFooter-same}
use Rattle.footer_text.specs.Readings.{NamesChange}
use Rattle.footer_text.specs.ReadingLaws.{NamesChange-same}
use Rattle.footer_text.specs.Footers.{LineNeeds, LineIgnores, Gives, AreCollected, AreFooters}

Gives-none : {X Y : Type 0} (R : X → Y → Type 0) (xs : List X) (ys : List Y) (x : X) → ((y : Y) → ¬ (R x y))
    → Gives R xs ys → Gives R (xs ++ x ∷ []) ys
Gives-none R [] ys x none p = inr (none, p)
Gives-none R (z ∷ zs) ys x none p =
    elim p [
      | inl a ↦ inl (a.0, a.1, a.2, a.3, Gives-none R zs a.1 x none a.4)
      | inr a ↦ inr (a.0, Gives-none R zs ys x none a.1)
    ]

Gives-one : {X Y : Type 0} (R : X → Y → Type 0) (xs : List X) (ys : List Y) (x : X) (y : Y) → R x y → Gives R xs ys
    → Gives R (xs ++ x ∷ []) (ys ++ y ∷ [])
Gives-one R [] ys x y r p = inl (y, [], ap (λ l. l ++ y ∷ []) p, r, refl)
Gives-one R (z ∷ zs) ys x y r p =
    elim p [
      | inl a ↦ inl (a.0, a.1 ++ y ∷ [], ap (λ l. l ++ y ∷ []) a.2, a.3, Gives-one R zs a.1 x y r a.4)
      | inr a ↦ inr (a.0, Gives-one R zs ys x y r a.1)
    ]

module _ (bases : List (List ℕ)) (own : ℕ) (lines : List (List ℕ)) (needs : List ℕ) (ignored : List (List ℕ))
    (seen : AreCollected bases own lines needs ignored) (line : List ℕ) where
  -- a line that adds no need
  same_needs : ((change : ℕ) → ¬ (LineNeeds bases own line change)) → (change : ℕ)
      → Contains needs change ↔ ((l : List ℕ) × Contains (lines ++ line ∷ []) l × LineNeeds bases own l change)
  same_needs none change = (
    λ c. let found = (seen.needed change).0 c in (found.0, Contains-append_left lines (line ∷ []) found.0 found.1, found.2),
    λ found. elim (Contains-push_cases lines line found.0 found.1) [
      | inl before ↦ (seen.needed change).1 (found.0, before, found.2)
      | inr same ↦ absurd (none change (subst (λ l. LineNeeds bases own l change) (sym same) found.2))
    ],
  )

  pub collect_nothing : ((value : List ℕ) → ¬ (IsFooter line value))
      → AreCollected bases own (lines ++ line ∷ []) needs ignored
  collect_nothing none = record {
    needed = same_needs (λ change n. none n.0 n.1);
    others = Gives-none (LineIgnores bases own) lines ignored line (λ value i. none value i.0) seen.others;
  }

  pub collect_ignored : (value : List ℕ) → LineIgnores bases own line value
      → AreCollected bases own (lines ++ line ∷ []) needs (ignored ++ value ∷ [])
  collect_ignored value i = record {
    needed = same_needs (λ change n. n.3 (i.1 change (subst (λ v. NamesChange bases v change) (IsFooter-same line n.0 value n.1 i.0) n.2)));
    others = Gives-one (LineIgnores bases own) lines ignored line value i seen.others;
  }

  pub collect_need : (need : ℕ) → LineNeeds bases own line need
      → AreCollected bases own (lines ++ line ∷ []) (needs ++ need ∷ []) ignored
  collect_need need n = record {
    needed = λ change. (
      λ c. elim (Contains-push_cases needs need change c) [
        | inl before ↦ let found = (seen.needed change).0 before in (found.0, Contains-append_left lines (line ∷ []) found.0 found.1, found.2)
        | inr same ↦ (line, Contains-push lines line, subst (λ k. LineNeeds bases own line k) same n)
      ],
      λ found. elim (Contains-push_cases lines line found.0 found.1) [
        | inl before ↦ Contains-append_left needs (need ∷ []) change ((seen.needed change).1 (found.0, before, found.2))
        | inr same ↦ subst (Contains (needs ++ need ∷ []))
            (only change (subst (λ l. LineNeeds bases own l change) (sym same) found.2)) (Contains-push needs need)
      ],
    );
    others = Gives-none (LineIgnores bases own) lines ignored line (λ value i. n.3 (i.1 need (subst (λ v. NamesChange bases v need) (IsFooter-same line n.0 value n.1 i.0) n.2))) seen.others;
  } where
    only : (change : ℕ) → LineNeeds bases own line change → need ≡ change
    only change k = NamesChange-same bases n.0 need change n.2
        (subst (λ v. NamesChange bases v change) (IsFooter-same line k.0 n.0 k.1 n.1) k.2)

-- the needs in order, each once
pub collected_footers : (bases : List (List ℕ)) (own : ℕ) (message : List ℕ) (lines : List (List ℕ))
    (needs sorted once : List ℕ) (ignored : List (List ℕ))
    → AreCollected bases own lines needs ignored → lines ≡ lines_of message
    → IsPermutation needs sorted → IsSorted nat_cmp sorted → IsFiltered (DiffersFromLast eqb) [] sorted once
    → AreFooters bases own message once ignored
collected_footers bases own message lines needs sorted once ignored seen whole moved in_order filtered =
    let is = dedup_is eqb sorted once filtered in
    let order = subst IsStrictlyIncreasing (sym is) (IsStrictlyIncreasing-dedup sorted in_order) in
    let to = λ (n : ℕ) (c : Contains needs n). subst (λ l. Contains l n) (sym is) (Contains-dedup_nat sorted n (Contains-permutation needs sorted n moved c)) in
    let from = λ (n : ℕ) (c : Contains once n). Contains-permutation sorted needs n (IsPermutation-sym needs sorted moved) (Contains-from_dedup eqb sorted n (subst (λ l. Contains l n) is c)) in
    let all = subst (λ l. AreCollected bases own l needs ignored) whole seen in
    record {
      increasing = order;
      needed = λ n. (λ c. (all.needed n).0 (from n c), λ found. to n ((all.needed n).1 found));
      others = all.others;
    }
