-- The map has just what is known after a revision is added to both, and after the oldest one is taken out of both.
use Rattle.std.proofs.Common.{◌≡◌, ℕ, cond, List, [], ◌∷◌, ◌++◌, Option, Some, None, sym, ap, ◌∙◌, subst}
use Rattle.std.proofs.lemmas.Map.Text.{hash_map_updates_text}
use Rattle.std.specs.HashMap.{HashMap, UpdatesBy, get_by_text}
use Rattle.std.specs.Prelude.{String, string_bytes}
use Rattle.std.specs.Str.{bytes_eq}
use Rattle.std.specs.String.{string_eq}
use Rattle.std.specs.declared.alloc.Global.{Global}
use Rattle.gerrit_events.specs.Revisions.{Revision, revision_place}
use Rattle.gerrit_events.specs.RevisionsKept.{PlacesAgree}
use Rattle.gerrit_events.proofs.Remembered.{added, removed, undone, AreApart-new}

abbrev Places : Type 0 → Type 0
Places S = HashMap (String Global) (ℕ × ℕ) S

-- what is at the revision is set to this
abbrev pub Sets : {S : Type 0} → Places S → Places S → List ℕ → Option (ℕ × ℕ) → Type 0
Sets old new revision place = UpdatesBy string_eq (λ k. bytes_eq revision (string_bytes k)) old new place

looked_up : {S : Type 0} (old new : Places S) (revision : List ℕ) (place : Option (ℕ × ℕ)) → Sets old new revision place
    → (known : List Revision) → PlacesAgree old known → (r : List ℕ)
    → get_by_text new r ≡ cond (bytes_eq revision r) place (revision_place known r)
looked_up old new revision place sets known agree r =
    hash_map_updates_text revision old new place sets r ∙ ap (λ found. cond (bytes_eq revision r) place found)
    (agree.same r)

module _ {S : Type 0} (old new : Places S) (revision : List ℕ) (place : ℕ × ℕ) (known : List Revision)
    (agree : PlacesAgree old known) (unknown : revision_place known revision ≡ None) (sets : Sets old new revision (Some place)) where
  pub agree_added : (after : List Revision) → after ≡ known ++ (revision, place) ∷ [] → PlacesAgree new after
  agree_added after is =
      let whole : PlacesAgree new (known ++ (revision, place) ∷ []) = record {
        same = λ r. looked_up old new revision (Some place) sets known agree r
            ∙ added known (revision, place) r unknown;
        apart = AreApart-new known (revision, place) agree.apart unknown;
      } in subst (PlacesAgree new) (sym is) whole

  pub agree_undone : (last : Places S) → Sets new last revision None → (after : List Revision) → after ≡ known
      → PlacesAgree last after
  agree_undone last unsets after is =
      let whole : PlacesAgree last known = record {
        same = λ r. hash_map_updates_text revision new last None unsets r
            ∙ ap (λ found. cond (bytes_eq revision r) None found)
            (looked_up old new revision (Some place) sets known agree r)
            ∙ undone known (revision, place) r unknown;
        apart = agree.apart;
      } in subst (PlacesAgree last) (sym is) whole

pub agree_removed : {S : Type 0} (old new : Places S) (oldest : Revision) (known : List Revision)
    → PlacesAgree old (oldest ∷ known) → Sets old new oldest.0 None → PlacesAgree new known
agree_removed old new oldest known agree sets = record {
  same = λ r. looked_up old new oldest.0 None sets (oldest ∷ known) agree r ∙ removed known oldest r agree.apart.0;
  apart = agree.apart.1;
}
