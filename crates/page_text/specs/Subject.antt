-- The subject of an item (Gerrit, "Changes": the subject of a change is the first line of its commit message).
use Rattle.std.specs.Prelude.{ℕ, List, [], ◌==◌, option_and_then, unwrap_or, option_map}
use Rattle.std.specs.List.{before_first}
use Rattle.std.specs.FinMap as finite
use Rattle.change_core.specs.Views.{message_of}
use Rattle.state_core.specs.State.{State}
use Rattle.state_core.specs.declared.item.Item.{Item}

-- what is before the first line feed
abbrev pub first_line : List ℕ → List ℕ
first_line text = before_first (λ byte. byte == 10) text

-- nothing where the item isn't known
abbrev pub subject_of : State → Item → List ℕ
subject_of state item =
    unwrap_or (option_map first_line (option_and_then (λ change. message_of change item.set)
    (finite.get state item.change))) []
