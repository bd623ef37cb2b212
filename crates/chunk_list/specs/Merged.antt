-- What becomes of a list into which an entry is merged.
use Rattle.std.specs.Prelude.{◌≡◌, Bool, List, Result, Some, MatchBool, OnOk, OnErr, slice_get, slice_set}
use Rattle.std.specs.List.{insert}
use Rattle.chunk_list.specs.Ranks.{rank}
use Rattle.chunk_list.specs.Chunks.{is_some_passing}

-- the entry is merged into the first item that it doesn't pass, where the two meet, or added before it; where it meets
-- none and is refused nothing changes
abbrev pub IsMerged : {T X E : Type 0} (passes meets : T → Bool) (merges : T → Result X E → T → Type 0) (entry : T)
    (old : List T) → Result X E → List T → Type 0
IsMerged {T} passes meets merges entry old answer new =
    let place = rank passes old in
    MatchBool (is_some_passing meets (slice_get old place))
    ((held kept : T) × (slice_get old place ≡ Some held) × merges held answer kept × (new ≡ slice_set old place kept))
    (OnOk answer (new ≡ insert old place entry) × OnErr answer (new ≡ old))
