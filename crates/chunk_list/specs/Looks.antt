-- What a look at an index lends.
use Rattle.std.proofs.Common.{◌≡◌, ℕ, List, Option, None, Some, length, refl, sym}
use Rattle.std.specs.Prelude.{slice_get}
use Rattle.std.specs.List.{ItemBy}
use Rattle.std.specs.Option.{option_map}
use Rattle.std.proofs.lemmas.Option.{slice_get_past, slice_get_read}

pub copied_at : {T B : Type 0} (read : B → T) (xs : List T) (i : ℕ) (found : Option B) → ItemBy read xs i i found
    → option_map read found ≡ slice_get xs i
copied_at read xs i None is = sym (slice_get_past xs i is.3)
copied_at read xs i (Some b) is = sym (slice_get_read xs (length xs) i (read b) refl is.3.0 is.1)
