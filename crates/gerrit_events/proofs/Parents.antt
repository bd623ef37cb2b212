-- How many parents of a line are lost.
use Rattle.std.specs.Prelude.{◌≡◌, ◌≢◌, ◌-◌, ℕ, List, length, min, take}
use Rattle.std.proofs.Common.{ap, refl, subst, sym, ◌∙◌}
use Rattle.std.proofs.lemmas.List.{length-take}
use Rattle.std.proofs.Math.Nat.{min_comm}
use Rattle.serde_json.specs.Data.{Data}
use Rattle.gerrit_events.specs.Claims.{lost_parents}
use Rattle.gerrit_events.specs.Patches.{parents_in, parents_part}
use Rattle.gerrit_events.specs.Revisions.{Revision}
use Rattle.gerrit_events.specs.declared.kind.Kind.{Kind}
use Rattle.gerrit_events.specs.declared.kind.Kind.TheVariants.{QueryLine}

pub lost_in_event : (known : List Revision) (kind : Kind) (line : Data) → kind ≢ QueryLine
    → length (parents_in known kind line) - 1 ≡ lost_parents known kind line
lost_in_event known QueryLine line event = absurd (event refl)
lost_in_event known kind line event = refl

pub lost_in_row : (known : List Revision) (kind : Kind) (line : Data) (count least lost : ℕ) → kind ≡ QueryLine
    → count ≡ length (parents_part kind line) → least ≡ min (length (parents_in known kind line)) 1
    → lost ≡ count - least → lost ≡ lost_parents known kind line
lost_in_row known kind line count least lost row is_count is_least is_lost =
    subst (λ k. count ≡ length (parents_part k line) → least ≡ min (length (parents_in known k line)) 1 → lost ≡ lost_parents known k line) (sym row)
    (λ counted taken.
    is_lost ∙ ap (λ n. n - least) counted
    ∙ ap (λ n. length (parents_part QueryLine line) - n)
    (taken ∙ min_comm (length (parents_in known QueryLine line)) 1 ∙ sym (length-take 1 (parents_in known QueryLine line))))
    is_count is_least
