-- How a pause is asked.
use Rattle.std.specs.Prelude.{◌≡◌, ◌⊎◌, ◌<◌, ℕ, Bool, true, false}
use Rattle.std.proofs.Common.{zero, suc}

module _ {P : Type 0} (turns : P → Bool → P → Type 0) where
  -- it was asked so often, and answered true each time
  abbrev pub Waits : ℕ → P → P → Type 0
  Waits zero before after = before ≡ after
  Waits (suc count) before after = (between : P) × Waits count before between × turns between true after

  -- it was asked until it answered false, or so often
  abbrev pub Pauses : ℕ → P → P → Type 0
  Pauses most before after = (count : ℕ) × (between : P) × Waits count before between
      × (((count ≡ most) × (between ≡ after)) ⊎ ((count < most) × turns between false after))
