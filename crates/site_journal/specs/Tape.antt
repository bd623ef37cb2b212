-- What a tape has, what a crash leaves of it, and what its calls do to that. Only fronts of lists are spoken of, and no
-- moments in time: a call that a crash cuts short is one that failed.
use Rattle.std.specs.Prelude.{◌≡◌, ℕ, Bool, true, false, List, ◌++◌, Option, Some, None, Result, IfSome, OnOk, OnErr}
use Rattle.std.specs.Prelude.{take}
use Rattle.site_journal.specs.Prefixes.{IsPrefix}

-- a tape, as far as it is known
pub record Image : Type 0 where
  -- what is read of it
  pub contents : List ℕ
  -- what was synced: a crash leaves at least this
  pub synced : List ℕ
  -- what was written: a crash leaves no more than this
  pub written : List ℕ
  -- a sync has failed, so that no later one is believed
  pub doubted : Bool

-- what a crash leaves
pub record IsLeftBy (image : Image) (left : List ℕ) : Type 0 where
  pub least : IsPrefix image.synced left
  pub most : IsPrefix left image.written

-- all that it has was synced, and nothing else can come back
pub record IsSettled (image : Image) : Type 0 where
  pub synced : image.synced ≡ image.contents
  pub written : image.written ≡ image.contents
  pub trusted : image.doubted ≡ false

-- what is known of a tape before is known of it after
abbrev pub Changes : Option Image → Option Image → (Image → Image → Type 0) → Type 0
Changes None None P = Unit {0}
Changes None (Some new) P = ⊥
Changes (Some old) None P = ⊥
Changes (Some old) (Some new) P = P old new

-- ---- what calls do

-- some prefix of the bytes was added, and perhaps more of them was written
pub record Grows (bytes : List ℕ) (old new : Image) : Type 0 where
  pub begins : IsPrefix old.contents new.contents
  pub within : IsPrefix new.contents new.written
  pub most : IsPrefix new.written (old.contents ++ bytes)
  pub synced : new.synced ≡ old.synced
  pub doubted : new.doubted ≡ old.doubted

-- an append adds all of the bytes, or fails
abbrev pub IsAppended : {E : Type 0} → List ℕ → Result Unit E → Image → Image → Type 0
IsAppended bytes result old new = Grows bytes old new × OnOk result (new.contents ≡ old.contents ++ bytes)

-- a sync changes nothing that is read, and takes back nothing that was synced
pub record Steadies (old new : Image) : Type 0 where
  pub contents : new.contents ≡ old.contents
  pub least : IsPrefix old.synced new.synced
  pub most : IsPrefix new.written old.written

-- where none has failed before, a sync that succeeds settles all; from one that fails on none is believed
abbrev pub IsSynced : {E : Type 0} → Result Unit E → Image → Image → Type 0
IsSynced result old new =
    Steadies old new × OnOk result (old.doubted ≡ false → IsSettled new) × OnErr result (new.doubted ≡ true)

-- some of what is past a length is taken away, and may come back until a sync
pub record Shrinks (len : ℕ) (old new : Image) : Type 0 where
  pub least : IsPrefix (take len old.contents) new.contents
  pub most : IsPrefix new.contents old.contents
  pub synced : IsPrefix (take len old.synced) new.synced
  pub written : IsPrefix new.written old.written
  pub doubted : new.doubted ≡ old.doubted

-- a cut takes away all that is past the length, or fails
abbrev pub CutsTape : {E : Type 0} → ℕ → Result Unit E → Image → Image → Type 0
CutsTape len result old new = Shrinks len old new × OnOk result (new.contents ≡ take len old.contents)

-- nothing is cut away that may come back
abbrev pub IsWhole : Image → Type 0
IsWhole image = image.written ≡ image.contents

-- it was just opened: it is read from its start, and no sync has failed
abbrev pub IsAtStart : Option Image → Option (List ℕ) → Type 0
IsAtStart image left = IfSome image (λ i. (left ≡ Some i.contents) × (i.doubted ≡ false))
