-- A project before the last `/+/`.
use Rattle.std.proofs.Common.{◌≡◌, ℕ, ◌≢◌, Option, Some, None, List, [], ◌∷◌, ◌++◌, IfSome, IsSomeAnd, MatchOption, sym}
use Rattle.std.proofs.Common.{ap, ◌∙◌}
use Rattle.std.specs.Borrow.{Bor}
use Rattle.footer_text.specs.ReadingLaws.{parted}
use Rattle.footer_text.specs.Cuts.{Lacks, Lacks-middle, cut_last}

pub project_has_plus : (text project number : List ℕ) → text ≡ project ++ 47 ∷ 43 ∷ 47 ∷ number → Lacks 43 text → ⊥
project_has_plus text project number e lacks =
    Lacks-middle 43 (project ++ 47 ∷ []) (47 ∷ number) (rw (e ∙ parted project number) at lacks)

module _ (text before after : List ℕ) (whole : text ≡ before ++ 43 ∷ after) where
  pub project_parts : Lacks 43 after → (project number : List ℕ) → Lacks 43 number
      → text ≡ project ++ 47 ∷ 43 ∷ 47 ∷ number
      → (before ≡ project ++ 47 ∷ []) × (after ≡ 47 ∷ number)
  project_parts lacks project number none e =
      cut_last 43 before after (project ++ 47 ∷ []) (47 ∷ number) (sym whole ∙ e ∙ parted project number) lacks
      (λ s. cc, none)

  pub project_found : (project : List ℕ) (r : Option (Bor (List ℕ))) → project ≢ [] → before ≡ project ++ 47 ∷ []
      → MatchOption r ((rest : List ℕ) → after ≢ 47 ∷ rest) (λ x. after ≡ 47 ∷ x.now)
      → IfSome r (λ number. (p : List ℕ) × (p ≢ []) × (text ≡ p ++ 47 ∷ 43 ∷ 47 ∷ number.now))
  project_found project None some front h = tt
  project_found project (Some x) some front h = (project, some, whole ∙ ap (λ l. l ++ 43 ∷ after) front ∙ ap (λ l. (project ++ 47 ∷ []) ++ 43 ∷ l) h ∙ sym (parted project x.now))

pub number_found : (after number : List ℕ) (r : Option (Bor (List ℕ))) → after ≡ 47 ∷ number
    → MatchOption r ((rest : List ℕ) → after ≢ 47 ∷ rest) (λ x. after ≡ 47 ∷ x.now)
    → IsSomeAnd r (λ found. found.now ≡ number)
number_found after number None e h = h number e
number_found after number (Some x) e h = cc
