-- Rows that are added one after another.
use Rattle.std.proofs.Common.{◌≡◌, ◌∙◌, ◌+◌, ◌<◌, ℕ, List, [], ◌∷◌, ◌++◌, Bool, true, false, length, take, drop, get_or}
use Rattle.std.proofs.Common.{refl, ap, sym, append_assoc, arith}
use Rattle.std.specs.Prelude.{filter, if◌then◌else◌, ◌≤◌}
use Rattle.std.proofs.Math.Seq.{drop-cons}
use Rattle.std.proofs.Common.{suc, zero, map}
use Rattle.std.proofs.lemmas.List.{map-append, take_more}
use Rattle.std.proofs.lemmas.List.Elements.{filter-append}
use Rattle.state_core.specs.declared.item.Item.{Item}
use Rattle.page_text.specs.declared.rows.Row.{Row}
use Rattle.page_text.specs.declared.rows.Row.TheVariants.{Enters}
use Rattle.page_text.specs.Rows.{entering}

pub entering_more : (items : List Item) (i : ℕ) (d : Item) → i < length items
    → entering (i + 1) (drop i items) ≡ Enters (get_or items i d) (i + 1) ∷ entering (i + 1 + 1) (drop (i + 1) items)
entering_more items i d inside =
    let next : i + 1 ≡ suc i = omega arith in
    let after : i + 1 + 1 ≡ suc (i + 1) = omega arith in
    ap (entering (i + 1)) (drop-cons items i d inside)
    ∙ ap (λ n. Enters (get_or items i d) (i + 1) ∷ entering n (drop (suc i) items)) (sym after)
    ∙ ap (λ n. Enters (get_or items i d) (i + 1) ∷ entering (i + 1 + 1) (drop n items)) (sym next)

filter_first_by : {X : Type 0} (passes : Bool) (x : X) (xs : List X)
    → (if passes then x ∷ xs else xs) ≡ (if passes then x ∷ [] else []) ++ xs
filter_first_by true x xs = refl
filter_first_by false x xs = refl

filter_first : {X : Type 0} (test : X → Bool) (x : X) (xs : List X)
    → filter test (x ∷ xs) ≡ filter test (x ∷ []) ++ filter test xs
filter_first test x xs = filter_first_by (test x) x (filter test xs)

pub asked_more : (test : Row → Bool) (items : List Item) (i : ℕ) (d : Item) (old new whole : List Row)
    → i < length items
    → new ≡ old ++ filter test (Enters (get_or items i d) (i + 1) ∷ [])
    → old ++ filter test (entering (i + 1) (drop i items)) ≡ whole
    → new ++ filter test (entering (i + 1 + 1) (drop (i + 1) items)) ≡ whole
asked_more test items i d old new whole inside is so_far =
    let rest = entering (i + 1 + 1) (drop (i + 1) items) in
    let row = Enters (get_or items i d) (i + 1) in
    ap (λ l. l ++ filter test rest) is ∙ append_assoc old (filter test (row ∷ [])) (filter test rest)
    ∙ ap (λ l. old ++ l) (sym (filter_first test row rest))
    ∙ ap (λ l. old ++ filter test l) (sym (entering_more items i d inside)) ∙ so_far

pub take_whole : {X : Type 0} (n : ℕ) (xs : List X) → length xs ≤ n → take n xs ≡ xs
take_whole zero [] small = refl
take_whole zero (x ∷ xs) small = absurd (omega arith)
take_whole (suc n) [] small = refl
take_whole (suc n) (x ∷ xs) small = ap (λ l. x ∷ l) (take_whole n xs (omega arith))

-- what a list gives so far, and what its next item gives
pub more_of : {X Y : Type 0} (gives : List X → List Y) (joins : (xs ys : List X) → gives (xs ++ ys) ≡ gives xs ++ gives ys)
    (xs : List X) (i : ℕ) (d : X) (old mid new : List Y) → i < length xs → mid ≡ old ++ gives (take i xs)
    → new ≡ mid ++ gives (get_or xs i d ∷ []) → new ≡ old ++ gives (take (i + 1) xs)
more_of gives joins xs i d old mid new inside so_far is =
    let next = gives (get_or xs i d ∷ []) in
    is ∙ ap (λ l. l ++ next) so_far ∙ append_assoc old (gives (take i xs)) next
    ∙ ap (λ l. old ++ l) (sym (ap gives (take_more xs i d inside) ∙ joins (take i xs) (get_or xs i d ∷ [])))

pub filter_map_joins : {X Y : Type 0} (test : Y → Bool) (f : X → Y) (xs ys : List X)
    → filter test (map f (xs ++ ys)) ≡ filter test (map f xs) ++ filter test (map f ys)
filter_map_joins test f xs ys =
    ap (filter test) (map-append f xs ys) ∙ filter-append test (map f xs) (map f ys)

pub map_filter_joins : {X Y : Type 0} (test : X → Bool) (f : X → Y) (xs ys : List X)
    → map f (filter test (xs ++ ys)) ≡ map f (filter test xs) ++ map f (filter test ys)
map_filter_joins test f xs ys =
    ap (map f) (filter-append test xs ys) ∙ map-append f (filter test xs) (filter test ys)
