-- A sequence of steps, up to the first fault.
use Rattle.std.specs.Prelude.{◌≡◌, ◌⊎◌, List, [], ◌∷◌, Result, Ok, Err}
use Rattle.event_feed.specs.declared.fault.FeedFault.{FeedFault}

module _ {Thing Place : Type 0} (does : Thing → Place → Place → Result (Unit {0}) FeedFault → Type 0) where
  -- the things are done one after the other, up to the first that fails
  abbrev pub InTurn : List Thing → Place → Place → Result (Unit {0}) FeedFault → Type 0
  InTurn [] old new result = (new ≡ old) × (result ≡ Ok tt)
  InTurn (thing ∷ things) old new result =
      ((mid : Place) × does thing old mid (Ok tt) × InTurn things mid new result)
      ⊎ ((fault : FeedFault) × (result ≡ Err fault) × does thing old new (Err fault))
