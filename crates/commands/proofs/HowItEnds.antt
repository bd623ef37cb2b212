-- How a command of two inputs ends, by what was read and printed.
use Rattle.std.proofs.Common.{◌≡◌, inl, inr, ℕ, List, [], ◌∷◌, Option, None, Some, Ok, Err, append-nil, refl}
use Rattle.std.proofs.Common.{subst, sym}
use Rattle.std.specs.Io.KnownBytes.{Appends}
use Rattle.replica_core.specs.InOrder.{IsInOrderOf}
use Rattle.snapshot_text.specs.Snapshot.{snapshot_text}
use Rattle.review_ops.specs.Operation.{Operation}
use Rattle.console.specs.Printing.{Ended}
use Rattle.commands.specs.Answers.{IsPrintedWhole, MissesNone}
use Rattle.console.specs.Console.{ConsoleState, IsPrinted}
use Rattle.console.specs.Printing.{Prints, PrintsSnapshot}
use Rattle.commands.specs.Ending.{Finishes}
use Rattle.console.specs.Inputs.{AreHad, Input, IsFirstRefused, IsHad, IsRefused, IsSound}
use Rattle.console.specs.declared.refusals.Refusal.{Refusal}
use Rattle.console.specs.declared.refusals.Refusal.TheVariants.{Memory, NoItem}

-- ---- what was printed

pub appends_nothing : (old : Option (List ℕ)) → Appends old old []
appends_nothing None = tt
appends_nothing (Some text) = sym (append-nil text)

pub nothing_printed : (old : ConsoleState) → IsPrinted [] old old
nothing_printed old = record { whole = appends_nothing old.printed; after = refl }

-- memory was refused before anything was printed
pub stops : {IsMissing : ℕ → Option ℕ → Type 0} (IsSo : List ℕ → Type 0) (old : ConsoleState)
    → Finishes (IsPrintedWhole IsSo IsMissing) old old (Err Memory)
stops IsSo old = inl ([], (refl, refl), nothing_printed old)

-- an answer that is so is so in another way
pub whole_so : (IsOne IsOther : List ℕ → Type 0) (IsMissing : ℕ → Option ℕ → Type 0)
    → ((answer : List ℕ) → IsOne answer → IsOther answer) → (answer : List ℕ) (ended : Ended)
    → IsPrintedWhole IsOne IsMissing answer ended → IsPrintedWhole IsOther IsMissing answer ended
whole_so IsOne IsOther IsMissing so answer (Ok done) is = so answer is
whole_so IsOne IsOther IsMissing so answer (Err (NoItem change set)) is = is
whole_so IsOne IsOther IsMissing so answer (Err refusal) is = is

-- the answer was printed, or cut short
pub finishes : (IsTheAnswer : List ℕ → Ended → Type 0) (answer : List ℕ) (old new : ConsoleState) (ended : Ended)
    → IsTheAnswer answer (Ok tt)
    → Prints answer old new ended → Finishes IsTheAnswer old new ended
finishes IsTheAnswer answer old new (Ok done) is (inl printed) = inl (answer, is, printed.1)
finishes IsTheAnswer answer old new (Ok done) is (inr cut) = cc
finishes IsTheAnswer answer old new (Err refusal) is (inl printed) = cc
finishes IsTheAnswer answer old new (Err refusal) is (inr cut) = inr (answer, Ok tt, is, cut.1, cut.0)

pub finishes_snapshot : (IsSo : List ℕ → Type 0) (journal : List Operation) (old new : ConsoleState) (ended : Ended)
    → ((ops : List Operation) → IsInOrderOf journal ops → IsSo (snapshot_text ops))
    → PrintsSnapshot journal old new ended → Finishes (IsPrintedWhole IsSo MissesNone) old new ended
finishes_snapshot IsSo journal old new ended is (inl prints) =
    finishes (IsPrintedWhole IsSo MissesNone) (snapshot_text prints.0) old new ended (is prints.0 prints.1) prints.2
finishes_snapshot IsSo journal old new (Ok done) is (inr refused) = cc
finishes_snapshot IsSo journal old new (Err refusal) is (inr refused) =
    let same : refusal ≡ Memory = cc in
    inl ([], subst (λ r. IsPrintedWhole IsSo MissesNone [] (Err r)) (sym same) (refl, refl), subst (λ n. IsPrinted [] old n) (sym refused.1) (nothing_printed old))

-- ---- two inputs

module _ (one other : Input) (IsSo : List ℕ → Type 0)
    (sound : (text : List ℕ) → IsSo text → IsSound one.kind text) where
  pub second_refused : (old mid new : ConsoleState) (refusal : Refusal) → IsHad one IsSo old mid
      → IsRefused other mid new refusal
      → IsFirstRefused (one ∷ other ∷ []) old new refusal
  second_refused old mid new refusal had refused = inr (mid, (had.0, had.1, sound had.0 had.2), inl refused)

  pub both_had : (IsThis : List ℕ → Type 0) → ((text : List ℕ) → IsThis text → IsSound other.kind text)
      → (old mid new : ConsoleState)
      → (first : IsHad one IsSo old mid) → (second : IsHad other IsThis mid new)
      → AreHad (one ∷ other ∷ []) old (first.0 ∷ second.0 ∷ []) new
  both_had IsThis sound_too old mid new first second =
      (mid, first.1, sound first.0 first.2, (new, second.1, sound_too second.0 second.2, refl))
