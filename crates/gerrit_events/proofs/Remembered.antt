-- What is known after a revision is learned, and after the oldest one is forgotten.
use Rattle.std.proofs.Common.{◌≡◌, ℕ, Bool, true, false, cond, List, [], ◌∷◌, ◌++◌, Option, Some, None, is_some, refl}
use Rattle.std.proofs.Common.{sym, ap, ◌∙◌}
use Rattle.std.proofs.lemmas.Bool.{false≢true, false_from_ne_true}
use Rattle.std.proofs.lemmas.Slice.Eq.{bytes_eq-Decides}
use Rattle.std.specs.Str.{bytes_eq}
use Rattle.gerrit_events.specs.Revisions.{Revision, revision_place}
use Rattle.gerrit_events.specs.RevisionsKept.{NoneTwice}

eq-sym : (xs ys : List ℕ) → bytes_eq xs ys ≡ false → bytes_eq ys xs ≡ false
eq-sym xs ys h =
    let same = bytes_eq-Decides xs ys in
    let back = bytes_eq-Decides ys xs in
    false_from_ne_true (bytes_eq ys xs) (λ t. false≢true (sym h ∙ same.1 (sym (back.0 t))))

eq-refl : (xs : List ℕ) → bytes_eq xs xs ≡ true
eq-refl xs = (bytes_eq-Decides xs xs).1 refl

-- where a look-up finds nothing, the first key is another
not_first : {X : Type 0} (b : Bool) (x : X) (rest : Option X) → cond b (Some x) rest ≡ None → b ≡ false
not_first false x rest h = refl
not_first true x rest h = absurd (false≢true (ap is_some (sym h)))

not_later : {X : Type 0} (b : Bool) (x : X) (rest : Option X) → cond b (Some x) rest ≡ None → rest ≡ None
not_later false x rest h = h
not_later true x rest h = absurd (false≢true (ap is_some (sym h)))

-- the new one is found
pub place_of-new : (known : List Revision) (new : Revision) → revision_place known new.0 ≡ None
    → revision_place (known ++ new ∷ []) new.0 ≡ Some new.1
place_of-new [] new none = ap (λ b. cond b (Some new.1) None) (eq-refl new.0)
place_of-new (seen ∷ known) new none =
    ap (λ b. cond b (Some seen.1) (revision_place (known ++ new ∷ []) new.0))
    (not_first (bytes_eq new.0 seen.0) seen.1 (revision_place known new.0) none)
    ∙ place_of-new known new (not_later (bytes_eq new.0 seen.0) seen.1 (revision_place known new.0) none)

-- and the others are found as before
pub place_of-others : (known : List Revision) (new : Revision) (revision : List ℕ) → bytes_eq revision new.0 ≡ false
    → revision_place (known ++ new ∷ []) revision ≡ revision_place known revision
place_of-others [] new revision other = ap (λ b. cond b (Some new.1) None) other
place_of-others (seen ∷ known) new revision other = ap (λ rest. cond (bytes_eq revision seen.0) (Some seen.1) rest)
    (place_of-others known new revision other)

pub AreApart-new : (known : List Revision) (new : Revision) → NoneTwice known → revision_place known new.0 ≡ None
    → NoneTwice (known ++ new ∷ [])
AreApart-new [] new apart none = (refl, tt)
AreApart-new (seen ∷ known) new apart none =
    let differs = not_first (bytes_eq new.0 seen.0) seen.1 (revision_place known new.0) none in (
      place_of-others known new seen.0 (eq-sym new.0 seen.0 differs)
          ∙ apart.0,
      AreApart-new known new apart.1 (not_later (bytes_eq new.0 seen.0) seen.1
          (revision_place known new.0) none),
    )

-- ---- as the map has it

added_at : (b : Bool) (known : List Revision) (new : Revision) (revision : List ℕ) → revision_place known new.0 ≡ None
    → bytes_eq new.0 revision ≡ b → cond b (Some new.1) (revision_place known revision) ≡ revision_place
    (known ++ new ∷ []) revision
added_at true known new revision none is =
    let same = (bytes_eq-Decides new.0 revision).0 is in
    sym (place_of-new known new none) ∙ ap (revision_place (known ++ new ∷ [])) same
added_at false known new revision none is = sym (place_of-others known new revision (eq-sym new.0 revision is))

pub added : (known : List Revision) (new : Revision) (revision : List ℕ) → revision_place known new.0 ≡ None
    → cond (bytes_eq new.0 revision) (Some new.1) (revision_place known revision)
    ≡ revision_place (known ++ new ∷ []) revision
added known new revision none = added_at (bytes_eq new.0 revision) known new revision none refl

removed_at : (b : Bool) (known : List Revision) (old : Revision) (revision : List ℕ) → revision_place known old.0 ≡ None
    → bytes_eq old.0 revision ≡ b → cond b None (revision_place (old ∷ known) revision) ≡ revision_place known revision
removed_at true known old revision none is =
    sym none ∙ ap (revision_place known) ((bytes_eq-Decides old.0 revision).0 is)
removed_at false known old revision none is = ap (λ b. cond b (Some old.1) (revision_place known revision))
    (eq-sym old.0 revision is)

pub removed : (known : List Revision) (old : Revision) (revision : List ℕ) → revision_place known old.0 ≡ None
    → cond (bytes_eq old.0 revision) None (revision_place (old ∷ known) revision) ≡ revision_place known revision
removed known old revision none = removed_at (bytes_eq old.0 revision) known old revision none refl

undone_at : (b : Bool) (known : List Revision) (new : Revision) (revision : List ℕ) → revision_place known new.0 ≡ None
    → bytes_eq new.0 revision ≡ b → cond b None (cond b (Some new.1)
    (revision_place known revision)) ≡ revision_place known revision
undone_at true known new revision none is =
    sym none ∙ ap (revision_place known) ((bytes_eq-Decides new.0 revision).0 is)
undone_at false known new revision none is = refl

-- what was added is taken out again
pub undone : (known : List Revision) (new : Revision) (revision : List ℕ) → revision_place known new.0 ≡ None
    → cond (bytes_eq new.0 revision) None (cond (bytes_eq new.0 revision) (Some new.1)
    (revision_place known revision)) ≡ revision_place known revision
undone known new revision none = undone_at (bytes_eq new.0 revision) known new revision none refl
