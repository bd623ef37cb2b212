-- Texts that are equal pass the test of it.
use Rattle.std.proofs.Common.{◌≡◌, ℕ, List, true, eqb, refl}
use Rattle.std.specs.Cmp.Lexicographic.{pointwise}
use Rattle.std.proofs.lemmas.Slice.Eq.{slice_eq-Decides}
use Rattle.std.proofs.lemmas.Bool.Decides.{Decides-eqb}

pub same_texts : (xs ys : List ℕ) → xs ≡ ys → pointwise eqb xs ys ≡ true
same_texts xs ys e = (slice_eq-Decides Decides-eqb xs ys _ refl).1 e
