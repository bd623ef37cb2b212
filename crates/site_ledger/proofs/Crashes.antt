-- What a crash leaves of a journal says what it has.
use Rattle.std.proofs.Common.{◌≡◌, ◌∙◌, ℕ, ◌+◌, List, [], ◌∷◌, ◌++◌, Option, Some, None, Result, Ok, Err, ap, arith}
use Rattle.std.proofs.Common.{append_assoc, length, length-append, append-nil, subst, sym, take}
use Rattle.std.proofs.lemmas.Bool.{false≢true}
use Rattle.std.specs.Prelude.{IfSome, IsSome, OnErr}
use Rattle.review_ops.specs.Operation.{Operation}
use Rattle.site_journal.specs.Book.{Book, IsHolding, Recovers}
use Rattle.site_journal.specs.Prefixes.{IsPrefix}
use Rattle.site_journal.specs.Tape.{Image, IsLeftBy, IsSettled}
use Rattle.site_journal.specs.Text.{SaysJournal}
use Rattle.site_ledger.specs.Keeping.{Survive}

same_ends : (xs ys : List ℕ) → IsPrefix xs ys → IsPrefix ys xs → ys ≡ xs
same_ends xs ys a b = by_rest a.0 a.1
  where
    by_rest : (rest : List ℕ) → ys ≡ xs ++ rest → ys ≡ xs
    by_rest [] e = e ∙ append-nil xs
    by_rest (x ∷ rest) e =
        absurd (omega (arith, ap length e, length-append xs (x ∷ rest), ap length b.1, length-append ys b.0))

abbrev Left : List Operation → Image → Type 0
Left ops i =
    (left : List ℕ) → IsLeftBy i left → (more : List Operation) × (rest : List ℕ) × SaysJournal left (ops ++ more) rest

-- what a settled journal says is what a crash leaves
pub held_survives : (book : Book) (ops : List Operation) → IsHolding book ops → Survive book ops
held_survives book ops holding = by_image book.image holding.holds
  where
    by_image : (image : Option Image) → IfSome image (λ i. IsSettled i × SaysJournal i.contents ops [])
        → IfSome image (Left ops)
    by_image None h = tt
    by_image (Some i) h = λ left is.
        let same : left ≡ i.contents =
        same_ends i.contents left (subst (λ l. IsPrefix l left) h.0.synced is.least) (subst (λ l. IsPrefix left l) h.0.written is.most) in
        ([], [], subst (λ l. SaysJournal left l []) (sym (append-nil ops)) (subst (λ l. SaysJournal l ops []) (sym same) h.1))

-- what is recovered begins with what was acknowledged
pub recovered_survives : (image : Option Image) (before ops : List Operation) (all : Type 0)
    → IfSome image (λ i. (left : List ℕ) → IsLeftBy i left → Recovers before ops all left) → IfSome image (Left before)
recovered_survives None before ops all h = tt
recovered_survives (Some i) before ops all h = λ left is. let r = h left is in (take r.count ops, r.rest, r.says)

-- what comes first of what a crash leaves
pub front_survives : (image : Option Image) (ops more : List Operation) → IfSome image (Left (ops ++ more))
    → IfSome image (Left ops)
front_survives None ops more h = tt
front_survives (Some i) ops more h = λ left is.
    let r = h left is in
    (more ++ r.0, r.1, subst (λ all. SaysJournal left all r.1) (append_assoc ops more r.0) r.2)

-- a tape of which something is known at first is known afterwards
pub still_known : (old new : Option Image) → IfSome old (λ i. IsSome new) → IsSome old → IsSome new
still_known None new stays known = absurd (false≢true known)
still_known (Some i) new stays known = stays

pub on_err : {A E : Type 0} (result : Result A E) (P : Type 0) → P → OnErr result P
on_err (Ok value) P p = tt
on_err (Err fault) P p = p
