-- How far an answer has come, by the lines that were read.
use Rattle.std.proofs.Common.{◌≡◌, ◌⊎◌, true, false, List, [], ◌∷◌, fold, refl, ap, ◌∙◌, inl, inr}
use Rattle.std.proofs.lemmas.List.Sums.{fold-append}
use Rattle.event_feed.specs.Progress.{AreBeside, EndsWhole, after_part}
use Rattle.event_feed.specs.declared.progress.Progress.{Progress}
use Rattle.event_feed.specs.declared.progress.Progress.TheVariants.{Unbegun, Whole}
use Rattle.gerrit_events.specs.declared.part.Part.{Part}
use Rattle.gerrit_events.specs.declared.part.Part.TheVariants.{Nothing, Event, Row, Stats, Error}

-- ---- whole

first : (start : Progress) (part : Part) (parts : List Part) → after_part start part ≡ Whole → AreBeside parts
    → ((start ≡ Whole) × AreBeside (part ∷ parts)) ⊎ EndsWhole (part ∷ parts)
first start Nothing parts is beside = inl (is, (tt, beside))
first start (Event change) parts is beside = inl (is, (tt, beside))
first start (Row change) parts is beside = cc
first start (Stats true) parts is beside = cc
first start (Stats false) parts is beside = inr (record { before = []; after = parts; whole = refl; last = beside })
first start Error parts is beside = inl (is, (tt, beside))

later : (part : Part) (parts : List Part) → EndsWhole parts → EndsWhole (part ∷ parts)
later part parts h = record {
  before = part ∷ h.before;
  after = h.after;
  whole = ap (λ l. part ∷ l) h.whole;
  last = h.last;
}

whole_so : (start : Progress) (parts : List Part) → fold after_part start parts ≡ Whole
    → ((start ≡ Whole) × AreBeside parts) ⊎ EndsWhole parts
whole_so start [] is = inl (is, tt)
whole_so start (part ∷ parts) is = elim (whole_so (after_part start part) parts is) [
  | inl stays ↦ first start part parts stays.0 stays.1
  | inr ends ↦ inr (later part parts ends)
]

pub whole_by : (parts : List Part) → fold after_part Unbegun parts ≡ Whole → EndsWhole parts
whole_by parts is = elim (whole_so Unbegun parts is) [
  | inl stays ↦ let never : Unbegun ≡ Whole = stays.0 in cc
  | inr ends ↦ ends
]

pub stays : (start : Progress) (parts : List Part) → AreBeside parts → fold after_part start parts ≡ start
stays start [] h = refl
stays start (Nothing ∷ parts) h = stays start parts h.1
stays start (Event change ∷ parts) h = stays start parts h.1
stays start (Row change ∷ parts) h = absurd h.0
stays start (Stats more ∷ parts) h = absurd h.0
stays start (Error ∷ parts) h = stays start parts h.1

pub whole_from : (parts : List Part) → EndsWhole parts → fold after_part Unbegun parts ≡ Whole
whole_from parts h =
    ap (fold after_part Unbegun) h.whole ∙ fold-append after_part Unbegun h.before (Stats false ∷ h.after)
    ∙ stays Whole h.after h.last

-- ---- unbegun

beside : (start : Progress) (part : Part) (parts : List Part) → after_part start part ≡ Unbegun → AreBeside parts
    → (start ≡ Unbegun) × AreBeside (part ∷ parts)
beside start Nothing parts is rest = (is, (tt, rest))
beside start (Event change) parts is rest = (is, (tt, rest))
beside start (Row change) parts is rest = cc
beside start (Stats true) parts is rest = cc
beside start (Stats false) parts is rest = cc
beside start Error parts is rest = (is, (tt, rest))

pub unbegun_by : (start : Progress) (parts : List Part) → fold after_part start parts ≡ Unbegun
    → (start ≡ Unbegun) × AreBeside parts
unbegun_by start [] is = (is, tt)
unbegun_by start (part ∷ parts) is =
    let rest = unbegun_by (after_part start part) parts is in beside start part parts rest.0 rest.1
