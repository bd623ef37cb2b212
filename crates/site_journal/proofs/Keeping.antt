-- What the calls of a tape do to what is kept, one after the other.
use Rattle.std.proofs.Common.{◌≡◌, ℕ, zero, suc, ◌+◌, ◌<◌, ◌≤◌, Bool, true, false, List, [], ◌∷◌, ◌++◌, Option, Some, None}
use Rattle.std.proofs.Common.{length, take, get_or, refl, sym, ap, ◌∙◌, subst, arith, append-nil, length-append}
use Rattle.std.specs.Prelude.{IfSome}
use Rattle.std.proofs.lemmas.List.{take_at, take_all, take_more}
use Rattle.line_reader.specs.Lines.{line_limit}
use Rattle.review_ops.specs.Operation.{Operation}
use Rattle.review_ops.specs.Timestamp.{IsNumbered}
use Rattle.review_ops.specs.Good.{IsGood}
use Rattle.op_text.specs.Text.{operation_text}
use Rattle.snapshot_text.specs.Snapshot.{operation_lines}
use Rattle.snapshot_text.specs.Sound.{IsSound, AreSoundOperations}
use Rattle.site_journal.specs.Prefixes.{IsPrefix}
use Rattle.site_journal.specs.Text.{AreShort, SaysJournal}
use Rattle.site_journal.specs.Tape.{Image, IsLeftBy, IsSettled, Changes, Grows, Steadies}
use Rattle.site_journal.specs.Book.{TakesBack, Recovers}
use Rattle.site_journal.proofs.Bytes.{prefix-trans, prefix-length}

-- ---- fronts
pub same_ends : (xs ys : List ℕ) → IsPrefix xs ys → IsPrefix ys xs → ys ≡ xs
same_ends xs ys a b = by_rest a.0 a.1
  where
    by_rest : (rest : List ℕ) → ys ≡ xs ++ rest → ys ≡ xs
    by_rest [] e = e ∙ append-nil xs
    by_rest (x ∷ rest) e =
        absurd (omega (arith, ap length e, length-append xs (x ∷ rest), ap length b.1, length-append ys b.0))

take_front : (front rest whole : List ℕ) (len : ℕ) → whole ≡ front ++ rest → len ≡ length front → take len whole ≡ front
take_front front rest whole len e n = ap (λ k. take k whole) n ∙ ap (take (length front)) e ∙ take_at front rest _ refl

-- ---- what is known through two calls
pub changes_trans : (a b c : Option Image) (P Q R : Image → Image → Type 0) → Changes a b P → Changes b c Q
    → ((i j k : Image) → P i j → Q j k → R i k) → Changes a c R
changes_trans None None None P Q R p q f = tt
changes_trans None None (Some k) P Q R p q f = absurd q
changes_trans None (Some j) c P Q R p q f = absurd p
changes_trans (Some i) None c P Q R p q f = absurd p
changes_trans (Some i) (Some j) None P Q R p q f = absurd q
changes_trans (Some i) (Some j) (Some k) P Q R p q f = f i j k p q

pub changes_from : (a b : Option Image) (H : Image → Type 0) (P Q : Image → Image → Type 0) → IfSome a H → Changes a b P
    → ((i j : Image) → H i → P i j → Q i j) → Changes a b Q
changes_from None None H P Q h p f = tt
changes_from None (Some j) H P Q h p f = absurd p
changes_from (Some i) None H P Q h p f = absurd p
changes_from (Some i) (Some j) H P Q h p f = f i j h p

pub some_after : (a b : Option Image) (H : Image → Type 0) (P : Image → Image → Type 0) (G : Image → Type 0)
    → IfSome a H → Changes a b P → ((i j : Image) → H i → P i j → G j) → IfSome b G
some_after None None H P G h p f = tt
some_after None (Some j) H P G h p f = absurd p
some_after (Some i) None H P G h p f = absurd p
some_after (Some i) (Some j) H P G h p f = f i j h p

pub some_weaker : (a : Option Image) (H G : Image → Type 0) → ((i : Image) → H i → G i) → IfSome a H → IfSome a G
some_weaker None H G f h = tt
some_weaker (Some i) H G f h = f i h

-- ---- writing

module _ (len : ℕ) (lines : List ℕ) where
  abbrev At : Image → Type 0
  At i = IsSettled i × (length i.contents ≡ len)

  pub undone : (done : Bool) → done ≡ true → (i j k : Image) → At i → Grows lines i j → TakesBack len done j k
      → IsSettled k × (k.contents ≡ i.contents)
  undone done is i j k at grows back =
      let settled = back.settled is (grows.doubted ∙ at.0.trusted) in
      (settled.0, settled.1 ∙ take_front i.contents grows.begins.0 j.contents len grows.begins.1 (sym at.1))

  pub kept : (i j k : Image) → At i → Grows lines i j → j.contents ≡ i.contents ++ lines → Steadies j k
      → (j.doubted ≡ false → IsSettled k) → IsSettled k × (k.contents ≡ i.contents ++ lines)
  kept i j k at grows whole sync settles = (settles (grows.doubted ∙ at.0.trusted), sync.contents ∙ whole)

  pub within : (i j : Image) → At i → Grows lines i j → len ≤ length j.contents
  within i j at grows = omega (arith, at.1, prefix-length i.contents j.contents grows.begins)

-- ---- lines of operations

pub sound_next : (ops : List Operation) (i : ℕ) (op : Operation) → i < length ops → op ≡ get_or ops i op
    → IsNumbered op.stamp → IsGood op.deed → AreSoundOperations (take i ops) → AreSoundOperations (take (i + 1) ops)
sound_next ops i op within is numbered good sound =
    let here : IsSound op = record { numbered = numbered; good = good } in
    rw (take_more ops i op within) (push (take i ops) (get_or ops i op) sound (subst IsSound is here))
  where
    push : (xs : List Operation) (x : Operation) → AreSoundOperations xs → IsSound x → AreSoundOperations (xs ++ x ∷ [])
    push [] x sound is = (is, tt)
    push (y ∷ xs) x sound is = (sound.0, push xs x sound.1 is)

pub short_next : (ops : List Operation) (i : ℕ) (op : Operation) → i < length ops → op ≡ get_or ops i op
    → length (operation_text op) ≤ line_limit → AreShort (take i ops) → AreShort (take (i + 1) ops)
short_next ops i op within is short all =
    rw (take_more ops i op within)
    (push (take i ops) (get_or ops i op) all (subst (λ o. length (operation_text o) ≤ line_limit) is short))
  where
    push : (xs : List Operation) (x : Operation) → AreShort xs → length (operation_text x) ≤ line_limit
        → AreShort (xs ++ x ∷ [])
    push [] x sound is = (is, tt)
    push (y ∷ xs) x sound is = (sound.0, push xs x sound.1 is)

-- an operation whose line is too long isn't among short ones
pub long_among : (ops : List Operation) (i : ℕ) (op : Operation) → i < length ops → op ≡ get_or ops i op
    → line_limit < length (operation_text op) → ¬ AreShort ops
long_among [] i op within is long short = absurd (omega (arith, within))
long_among (o ∷ ops) zero op within is long short =
    absurd (omega (arith, long, subst (λ p. length (operation_text p) ≤ line_limit) (sym is) short.0))
long_among (o ∷ ops) (suc i) op within is long short = long_among ops i op (omega (arith, within)) is long short.1

-- ---- crashes

pub not_true : false ≡ true → ⊥
not_true e = cc

module _ (before ops : List Operation) where
  abbrev pub Held : Image → Type 0
  Held i = IsSettled i × SaysJournal i.contents before []

  abbrev pub Survives : Type 0 → Image → Type 0
  Survives are_all i = (left : List ℕ) → IsLeftBy i left → Recovers before ops are_all left

  pub left_same : (are_all : Type 0) → (are_all → ⊥) → (i : Image) → Held i → Survives are_all i
  left_same are_all never i held left is =
      let same : left ≡ i.contents =
      same_ends i.contents left (subst (λ l. IsPrefix l left) held.0.synced is.least) (subst (λ l. IsPrefix left l) held.0.written is.most) in record {
        count = 0;
        rest = [];
        says = subst (λ l. SaysJournal left l []) (sym (append-nil before)) (subst (λ l. SaysJournal l before []) (sym same) held.1);
        all = λ all. absurd (never all);
      }

  pub same_survives : (are_all : Type 0) → (are_all → ⊥) → (image : Option Image) → IfSome image Held
      → IfSome image (Survives are_all)
  same_survives are_all never image held = some_weaker image Held (Survives are_all) (left_same are_all never) held

  pub undone_survives : (are_all : Type 0) → (are_all → ⊥) → (old mid new : Option Image) → mid ≡ old → IfSome old Held
      → Changes mid new (λ i j. IsSettled j × (j.contents ≡ i.contents)) → IfSome new (Survives are_all)
  undone_survives are_all never old mid new same held changes =
      some_after mid new Held (λ i j. IsSettled j × (j.contents ≡ i.contents)) (Survives are_all)
      (subst (λ o. IfSome o Held) (sym same) held) changes
      (λ i j h w. left_same are_all never j (w.0, subst (λ l. SaysJournal l before []) (sym w.1) h.1))

  module _ (more : (text : List ℕ) → SaysJournal text before [] → SaysJournal (text ++ operation_lines ops) (before ++ ops) []) where
    left_kept : (are_all : Type 0) (i j : Image) → Held i → IsSettled j → j.contents ≡ i.contents ++ operation_lines ops
        → Survives are_all j
    left_kept are_all i j held settled whole left is =
        let same : left ≡ j.contents =
        same_ends j.contents left (subst (λ l. IsPrefix l left) settled.synced is.least) (subst (λ l. IsPrefix left l) settled.written is.most) in record {
          count = length ops;
          rest = [];
          says = subst (λ l. SaysJournal left (before ++ l) []) (sym (take_all (length ops) ops (omega arith)))
              (subst (λ l. SaysJournal l (before ++ ops) []) (sym (same ∙ whole)) (more i.contents held.1));
          all = λ all. refl;
        }

    pub kept_survives : (are_all : Type 0) (bytes : List ℕ) → bytes ≡ operation_lines ops → (old mid new : Option Image)
        → mid ≡ old → IfSome old Held
        → Changes mid new (λ i j. IsSettled j × (j.contents ≡ i.contents ++ bytes)) → IfSome new (Survives are_all)
    kept_survives are_all bytes is old mid new same held changes =
        some_after mid new Held (λ i j. IsSettled j × (j.contents ≡ i.contents ++ bytes)) (Survives are_all)
        (subst (λ o. IfSome o Held) (sym same) held) changes
        (λ i j h w. left_kept are_all i j h w.0 (w.1 ∙ ap (λ l. i.contents ++ l) is))

  module _ (lines : (text left : List ℕ) → SaysJournal text before [] → IsPrefix text left → IsPrefix left (text ++ operation_lines ops) → (count : ℕ) × (rest : List ℕ) × SaysJournal left (before ++ take count ops) rest) where
    left_doubtful : (are_all : Type 0) → (are_all → ⊥) → (i j : Image) → Held i → IsPrefix i.contents j.synced
        → IsPrefix j.written (i.contents ++ operation_lines ops) → Survives are_all j
    left_doubtful are_all never i j held least most left is =
        let found = lines i.contents left held.1 (prefix-trans i.contents j.synced left least is.least) (prefix-trans left j.written (i.contents ++ operation_lines ops) is.most most) in record {
          count = found.0;
          rest = found.1;
          says = found.2;
          all = λ all. absurd (never all);
        }

    pub doubtful_survives : (are_all : Type 0) → (are_all → ⊥) → (bytes : List ℕ) → bytes ≡ operation_lines ops
        → (old mid new : Option Image) → mid ≡ old → IfSome old Held
        → Changes mid new (λ i j. IsPrefix i.contents j.synced × IsPrefix j.written (i.contents ++ bytes))
        → IfSome new (Survives are_all)
    doubtful_survives are_all never bytes is old mid new same held changes =
        some_after mid new Held (λ i j. IsPrefix i.contents j.synced × IsPrefix j.written (i.contents ++ bytes))
        (Survives are_all) (subst (λ o. IfSome o Held) (sym same) held) changes
        (λ i j h w. left_doubtful are_all never i j h w.0 (subst (λ l. IsPrefix j.written (i.contents ++ l)) is w.1))
