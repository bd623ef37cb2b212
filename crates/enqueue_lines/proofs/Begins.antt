-- Whether a line begins with a word.
use Rattle.std.proofs.Common.{◌≡◌, ℕ, Bool, true, false, List, refl, take, drop, length}
use Rattle.std.specs.Prelude.{MatchBool}
use Rattle.std.specs.List.{starts_with}
use Rattle.std.specs.Prelude.{nat_eq}
use Rattle.std.proofs.lemmas.Bool.{false≢true}
use Rattle.std.proofs.lemmas.Bool.Decides.{Decides-eqb}
use Rattle.std.proofs.lemmas.Slice.Eq.{starts_is}
use Rattle.enqueue_lines.specs.Lines.{BeginsPassed}

pub begins_so : (word line : List ℕ) (r : Bool) → r ≡ starts_with nat_eq line word
    → MatchBool r (BeginsPassed word line) (¬ BeginsPassed word line)
begins_so word line true is = (drop (length word) line, (starts_is Decides-eqb line word true is).0 refl)
begins_so word line false is = λ begins. false≢true ((starts_is Decides-eqb line word false is).1 begins.0 begins.1)
