-- A save is the first so many arrivals: it stays what it was while others come, and they make up a journal again.
use Rattle.std.proofs.Common.{◌≡◌, ◌≤◌, ℕ, Bool, true, false, cond, List, [], ◌∷◌, ◌++◌, length, take, drop, refl, sym}
use Rattle.std.proofs.Common.{ap, subst, ◌∙◌, arith, append_assoc}
use Rattle.std.specs.Prelude.{◌||◌}
use Rattle.std.specs.List.{AllByRecursion, IsDistinct}
use Rattle.std.proofs.lemmas.List.{append-nil, take-append-drop, take-append-le}
use Rattle.review_ops.specs.Operation.{Operation}
use Rattle.replica_core.specs.Journal.{has, same_operation, AreApart, arrived, all_arrived}
use Rattle.replica_core.specs.JournalLaws.{length-all_arrived}
use Rattle.world_core.specs.World.{SiteState}

-- the site with this journal, of which the first so many operations are saved
abbrev pub site_with : List Operation → ℕ → ℕ → SiteState
site_with journal saved start = record { journal = journal; saved = take saved journal; start = start }

-- ---- what comes leaves the first arrivals as they are
pub take-arrived : (n : ℕ) (journal : List Operation) (op : Operation) → n ≤ length journal
    → take n (arrived journal op) ≡ take n journal
take-arrived n journal op within =
    elim (has journal op) as (λ known. take n (cond known journal (journal ++ op ∷ [])) ≡ take n journal) [
      | true ↦ refl
      | false ↦ take-append-le n journal (op ∷ []) within
    ]

pub take-all_arrived : (n : ℕ) (journal ops : List Operation) → n ≤ length journal
    → take n (all_arrived journal ops) ≡ take n journal
take-all_arrived n journal [] within = refl
take-all_arrived n journal (op ∷ ops) within =
    let longer = length-all_arrived journal (op ∷ []) in
    take-all_arrived n (arrived journal op) ops (omega (arith, within, longer)) ∙ take-arrived n journal op within

pub still_within : (n : ℕ) (journal ops new : List Operation) → n ≤ length journal → new ≡ all_arrived journal ops
    → n ≤ length new
still_within n journal ops new within is =
    let longer = length-all_arrived journal ops in
    let same : length new ≡ length (all_arrived journal ops) = ap length is in
    omega (arith, within, longer, same)

-- so a site keeps its save while its journal grows
pub grows : (journal more new : List Operation) (saved start : ℕ) → new ≡ more → take saved more ≡ take saved journal
    → site_with new saved start ≡ record (site_with journal saved start) { journal = more }
grows journal more new saved start is kept =
    λ i. record { journal = is i; saved = (ap (take saved) is ∙ kept) i; start = start }

-- ---- operations of which none is there twice make up the journal in which they are
one_of_all : (P : Operation → Type 0) (ops : List Operation) (op : Operation) (more : List Operation)
    → AllByRecursion P (ops ++ op ∷ more) → P op
one_of_all P [] op more all = all.0
one_of_all P (first ∷ ops) op more all = one_of_all P ops op more all.1

neither : (a b : Bool) → a ≡ false → b ≡ false → (a || b) ≡ false
neither true b e f = e
neither false b e f = f

is_new : (journal : List Operation) (op : Operation) (more : List Operation) → AreApart (journal ++ op ∷ more)
    → has journal op ≡ false
unfolding IsDistinct
is_new [] op more apart = refl
is_new (first ∷ journal) op more apart =
    neither (same_operation first op) (has journal op)
    (one_of_all (λ other. same_operation first other ≡ false) journal op more apart.0)
    (is_new journal op more apart.1)

arrive_after : (journal ops more : List Operation) → AreApart (journal ++ (ops ++ more))
    → all_arrived journal ops ≡ journal ++ ops
arrive_after journal [] more apart = sym (append-nil journal)
arrive_after journal (op ∷ ops) more apart =
    let came : arrived journal op ≡ journal ++ op ∷ [] = ap (λ known. cond known journal (journal ++ op ∷ [])) (is_new journal op (ops ++ more) apart) in
    ap (λ j. all_arrived j ops) came
    ∙ arrive_after (journal ++ op ∷ []) ops more
    (subst AreApart (sym (append_assoc journal (op ∷ []) (ops ++ more))) apart)
    ∙ append_assoc journal (op ∷ []) ops

-- the first so many operations of a journal make up a journal of their own
pub first_arrive : (n : ℕ) (journal : List Operation) → AreApart journal
    → all_arrived [] (take n journal) ≡ take n journal
first_arrive n journal apart =
    arrive_after [] (take n journal) (drop n journal) (subst AreApart (sym (take-append-drop n journal)) apart)
