-- What windows and the desk know of what is shown.
use Rattle.std.specs.Prelude.{◌≡◌, ℕ, List, fold, Option, Some, IfSome, IsSomeAnd}
use mathlib.Core.List.{IsPrefix}
use mathlib.Core.Option.{some}
use lib.ListN.{get_elem?}
use Rattle.logbook.specs.Pages.{Book}
use Rattle.logbook.specs.declared.tokens.Seen.{Seen}
use Rattle.review_ops.specs.Operation.{Operation}
use Rattle.site_shared.specs.declared.law.Law.{Law}
use Rattle.site_shared.specs.declared.shown.Shown.{Shown}

-- what a place has seen of the publishes
abbrev pub Seeing : Type 0
Seeing = Seen (List Operation) ℕ Law

-- the second has seen all that the first has, of the same list
abbrev pub Goes : Seeing → Seeing → Type 0
Goes before after = (after.book ≡ before.book) × IsPrefix before.log after.log

-- what is seen once each of these has taken the place of what is shown
abbrev pub seen_after : Seeing → List Shown → Seeing
seen_after seen nexts = fold (λ _ next. next.sight.seen) seen nexts

-- what is shown goes on from what the place has seen
abbrev pub Begins : Option Seeing → Shown → Type 0
Begins known shown = IfSome known (λ seen. Goes seen shown.sight.seen)

-- what is shown goes on from what each place has seen
abbrev pub Keeps : Shown → List (Option Seeing) → Type 0
Keeps shown places = (place : ℕ) (known : Option Seeing) → get_elem? places place ≡ some known → Begins known shown

-- what is shown then is seen, and goes on from what had been seen
abbrev pub Sees : Option Seeing → Shown → Shown → Option Seeing → Type 0
Sees known before after knows = (knows ≡ Some after.sight.seen) × Begins known after

-- the place has seen publishes of this opening
abbrev pub Knows : Book → Option Seeing → Type 0
Knows book known = IsSomeAnd known (λ seen. seen.book ≡ book)
