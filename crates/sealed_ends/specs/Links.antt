-- What the ends of a connection have left and took, sealed or not.
use Rattle.std.specs.Prelude.{ℕ, List, Option}
use Rattle.sealed_ends.specs.Opened.{failed_by, left_by}
use Rattle.sealed_ends.specs.Written.{taken_by, writes_failed_by}
use Rattle.sealed_ends.specs.declared.link.LinkSource.{LinkSource}
use Rattle.sealed_ends.specs.declared.link.LinkSource.TheVariants as from
use Rattle.sealed_ends.specs.declared.link.LinkDrain.{LinkDrain}
use Rattle.sealed_ends.specs.declared.link.LinkDrain.TheVariants as to

abbrev pub link_left : {S : Type 0} → (S → Option (List ℕ)) → LinkSource S → Option (List ℕ)
link_left left (from.Plain source) = left source
link_left left (from.Sealed source) = left_by left source

abbrev pub link_failed : {S : Type 0} → (S → ℕ) → LinkSource S → ℕ
link_failed failed (from.Plain source) = failed source
link_failed failed (from.Sealed source) = failed_by source

abbrev pub link_taken : {D : Type 0} → (D → Option (List ℕ)) → LinkDrain D → Option (List ℕ)
link_taken taken (to.Plain drain) = taken drain
link_taken taken (to.Sealed drain) = taken_by taken drain

abbrev pub link_writes_failed : {D : Type 0} → (D → ℕ) → LinkDrain D → ℕ
link_writes_failed failed (to.Plain drain) = failed drain
link_writes_failed failed (to.Sealed drain) = writes_failed_by drain
