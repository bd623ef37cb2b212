-- The state text: a line for each change, and after it a line for its newest abandon or restore, for each patch set and
-- for each vote. A message is written as its JSON text (RFC 8259, section 7). The form is the project's own.
use Rattle.std.specs.Prelude.{ℕ, ℤ, List, [], ◌∷◌, ◌++◌, Option, None, Some, codes, flat_map, decimal}
use Rattle.std.specs.Fmt.{signed_decimal}
use Rattle.std.specs.FinMap as finite
use Rattle.json.specs.Print.{quoted}
use Rattle.review_ops.specs.Timestamp.{Timestamp, timestamp_text}
use Rattle.change_core.specs.Slots.{Patch, Slot}
use Rattle.change_core.specs.Change.{Change}
use Rattle.change_core.specs.Status.{status_name}
use Rattle.change_core.specs.Views.{status_of}
use Rattle.change_core.specs.declared.life.Life.{Life}
use Rattle.change_core.specs.declared.life.Life.TheVariants.{Abandoned, Restored}
use Rattle.state_core.specs.State.{State}

-- the parts, one after another
abbrev pub joined : List (List ℕ) → List ℕ
joined parts = flat_map (λ part. part) parts

-- `change N STATUS`
abbrev pub status_line : ℕ → Change → List ℕ
status_line number change =
    joined (codes "change " ∷ decimal number ∷ codes " " ∷ status_name (status_of change) ∷ codes "\n" ∷ [])

-- `life N abandoned STAMP` or `life N restored STAMP`, where there is one
abbrev pub life_name : Life → List ℕ
life_name Abandoned = codes " abandoned "
life_name Restored = codes " restored "

abbrev pub life_line : ℕ → Option (Timestamp × Life) → List ℕ
life_line number None = []
life_line number (Some register) =
    joined (codes "life " ∷ decimal number ∷ life_name register.1 ∷ timestamp_text register.0 ∷ codes "\n" ∷ [])

-- `set N,P STAMP MESSAGE`, and ` parent K` where there is one
abbrev pub parent_part : Option ℕ → List ℕ
parent_part None = []
parent_part (Some parent) = codes " parent " ++ decimal parent

abbrev pub set_line : ℕ → ℕ × (Timestamp × Patch) → List ℕ
set_line number set =
    joined (codes "set " ∷ decimal number ∷ codes "," ∷ decimal set.0 ∷ codes " " ∷ timestamp_text set.1.0 ∷ codes " " ∷ quoted set.1.1.message
    ∷ parent_part set.1.1.parent ∷ codes "\n" ∷ [])

-- `vote N,P LABEL VOTER VALUE STAMP`
abbrev pub vote_line : ℕ → Slot × (Timestamp × ℤ) → List ℕ
vote_line number vote =
    joined (codes "vote " ∷ decimal number ∷ codes "," ∷ decimal vote.0.set ∷ codes " " ∷ vote.0.label ∷ codes " " ∷ vote.0.voter ∷ codes " "
    ∷ signed_decimal vote.1.1 ∷ codes " " ∷ timestamp_text vote.1.0 ∷ codes "\n" ∷ [])

abbrev pub change_text : ℕ × Change → List ℕ
change_text change =
    joined (status_line change.0 change.1 ∷ life_line change.0 change.1.life
    ∷ flat_map (set_line change.0) (finite.entries change.1.sets) ∷ flat_map (vote_line change.0)
    (finite.entries change.1.votes) ∷ [])

-- the changes in number order, and `end C` with their number
abbrev pub state_text : State → List ℕ
state_text state =
    flat_map change_text (finite.entries state) ++ joined (codes "end " ∷ decimal (finite.len state) ∷ codes "\n" ∷ [])
