-- How the rows of an answer add up.
use Rattle.std.proofs.Common.{◌≡◌, ◌∙◌, ◌<◌, ◌+◌, ◌-◌, ◌++◌, ◌∷◌, [], ℕ, List, Option, None, Some, true, take, drop}
use Rattle.std.proofs.Common.{length, refl, sym}
use Rattle.std.proofs.Common.{ap, subst, arith, suc, zero}
use Rattle.std.specs.Prelude.{slice_get}
use Rattle.std.specs.List.{AllZip}
use Rattle.std.specs.Option.{option_or}
use Rattle.std.specs.BTreeMap.{BTreeMap}
use Rattle.std.proofs.lemmas.List.Elements.{All-push}
use Rattle.gerrit_events.specs.Rows.{SaysQueryLine}
use Rattle.state_core.specs.declared.item.Item.{Item}
use Rattle.gerrit_events.specs.declared.row.ChangePlace.{ChangePlace}
use Rattle.gerrit_events.specs.declared.row.QueryLine.{QueryLine}
use Rattle.enqueue_lines.specs.Handed.{IsItemLine, IsNoItem, IsRefusedHanded}
use Rattle.enqueue_lines.specs.declared.fault.EnqueueFault.{EnqueueFault}
use Rattle.enqueue_lines.specs.declared.fault.EnqueueFault.TheVariants.{BadLine, BadEnd, NoEnd, ReadFault, NoMemory}
use Rattle.enqueue_lines.specs.declared.fault.EnqueueFault.TheVariants.{WriteFault, BadQuery, BadHanded}
use Rattle.enqueue_lines.specs.Places.{AddsLine, ArePlacesOfRows, IsReadable, last_place, place_by}

-- ---- the next of a list's elements

pub take_next : {X : Type 0} (n : ℕ) (xs : List X) (x : X) (rest : List X) → drop n xs ≡ x ∷ rest
    → (take (suc n) xs ≡ take n xs ++ x ∷ []) × (drop (suc n) xs ≡ rest) × (n < length xs) × (slice_get xs n ≡ Some x)
take_next zero [] x rest e = cc
take_next zero (y ∷ ys) x rest e =
    let same : y ≡ x = cc in let then : ys ≡ rest = cc in
    (ap (λ z. z ∷ []) same, then, omega arith, ap (λ z. Some z) same)
take_next (suc n) [] x rest e = cc
take_next (suc n) (y ∷ ys) x rest e =
    let next = take_next n ys x rest e in
    (ap (λ zs. y ∷ zs) next.0, next.1, omega (arith, next.2), next.3)

pub all_taken : {X : Type 0} (n : ℕ) (xs : List X) → drop n xs ≡ [] → take n xs ≡ xs
all_taken zero [] e = refl
all_taken zero (y ∷ ys) e = cc
all_taken (suc n) [] e = refl
all_taken (suc n) (y ∷ ys) e = ap (λ zs. y ∷ zs) (all_taken n ys e)

pub zip_push : {X Y : Type 0} (R : X → Y → Type 0) (xs : List X) (ys : List Y) (x : X) (y : Y) → AllZip R xs ys → R x y
    → AllZip R (xs ++ x ∷ []) (ys ++ y ∷ [])
zip_push R [] [] x y all beside = (beside, tt)
zip_push R [] (b ∷ ys) x y all beside = absurd all
zip_push R (a ∷ xs) [] x y all beside = absurd all
zip_push R (a ∷ xs) (b ∷ ys) x y all beside = (all.0, zip_push R xs ys x y all.1 beside)

-- ---- the last row of a change

or_none : {X : Type 0} (a : Option X) → option_or a None ≡ a
or_none None = refl
or_none (Some x) = refl

or_or : {X : Type 0} (a b c : Option X) → option_or (option_or a b) c ≡ option_or a (option_or b c)
or_or None b c = refl
or_or (Some x) b c = refl

last_more : (rows : List QueryLine) (row : QueryLine) (change : ℕ)
    → last_place (rows ++ row ∷ []) change ≡ option_or (place_by row change) (last_place rows change)
last_more [] row change = sym (or_none (place_by row change))
last_more (first ∷ rows) row change =
    ap (λ p. option_or p (place_by first change)) (last_more rows row change)
    ∙ or_or (place_by row change) (last_place rows change) (place_by first change)

pub places_more : (before : List (List ℕ)) (line : List ℕ) (old new : BTreeMap ℕ ChangePlace)
    → ArePlacesOfRows before old
    → AddsLine line old new true → ArePlacesOfRows (before ++ line ∷ []) new
places_more before line old new are adds = record {
  rows = are.rows ++ adds.0 ∷ [];
  says_line = zip_push SaysQueryLine before are.rows line adds.0 are.says_line adds.1;
  each = All-push IsReadable are.rows adds.0 are.each adds.2;
  placed = λ change. adds.3 change ∙ ap (option_or (place_by adds.0 change)) (are.placed change)
      ∙ sym (last_more are.rows adds.0 change);
}

-- ---- items that were handed over

pub handed_refused : (all : List (List ℕ)) (n number : ℕ) (line : List ℕ) (items : List Item) (fault : EnqueueFault)
    → number ≡ suc n → slice_get all n ≡ Some line → AllZip IsItemLine (take n all) items → IsNoItem number line fault
    → IsRefusedHanded all fault
handed_refused all n number line items (BadHanded bad) up there before none =
    let place : bad - 1 ≡ n = omega (arith, up, none.0) in
    let some : 0 < bad = omega (arith, up, none.0) in (
      line,
      some,
      subst (λ k. slice_get all k ≡ Some line) (sym place) there,
      (refl, none.1),
      items,
      subst (λ k. AllZip IsItemLine (take k all) items) (sym place) before,
    )
handed_refused all n number line items (BadLine bad) up there before none = none
handed_refused all n number line items (BadEnd bad) up there before none = none
handed_refused all n number line items NoEnd up there before none = none
handed_refused all n number line items ReadFault up there before none = none
handed_refused all n number line items NoMemory up there before none = none
handed_refused all n number line items WriteFault up there before none = none
handed_refused all n number line items (BadQuery bad) up there before none = none
