-- What opening a tape does to what it has.
use Rattle.std.proofs.Common.{◌≡◌, ◌⊎◌, inl, inr, ℕ, ◌+◌, ◌-◌, min, true, false, List, [], ◌++◌, Option, Some, None}
use Rattle.std.proofs.Common.{Result, Ok, Err, length, take, drop, refl, sym, ap, ◌∙◌, subst, arith, append_assoc}
use Rattle.std.proofs.Common.{append-nil, length-append, take-append-drop}
use Rattle.std.specs.Prelude.{⊤, IfSome, OnOk, OnErr}
use Rattle.std.proofs.Math.Seq.{drop-append_seam}
use Rattle.std.proofs.lemmas.List.{take_at, take_all, length-take}
use Rattle.review_ops.specs.Operation.{Operation}
use Rattle.replica_core.specs.Journal.{all_arrived}
use Rattle.site_journal.specs.Prefixes.{IsPrefix}
use Rattle.site_journal.specs.Text.{header_line, whole_lines, SaysJournal, IsTorn, IsFresh}
use Rattle.site_journal.specs.Tape.{Image, IsSettled, Changes, Grows, Steadies, IsSynced, IsAtStart}
use Rattle.site_journal.specs.Book.{IsOpened, IsUnharmed}
use Rattle.site_journal.specs.Reading.{IsFoundText}
use Rattle.site_journal.specs.declared.reading.Found.TheVariants.{Lines}
use Rattle.site_journal.proofs.Bytes.{prefix-trans, has_none}
use Rattle.site_journal.proofs.Steps.{header_length}
use Rattle.site_journal.proofs.Keeping.{changes_trans, changes_from}

abbrev pub SyncedOk : Image → Image → Type 0
SyncedOk i j = Steadies i j × (i.doubted ≡ false → IsSettled j) × ⊤

abbrev pub SyncedErr : Image → Image → Type 0
SyncedErr i j = Steadies i j × ⊤ × (j.doubted ≡ true)

pub on_err : {T E P : Type 0} (r : Result T E) → P → OnErr r P
on_err (Ok x) p = tt
on_err (Err e) p = p

-- a last sync, by what it answers
pub sync_tail : {E : Type 0} (r : Result Unit E) (a c d : Option Image) (Q R S : Image → Image → Type 0) → Changes a c Q
    → Changes c d (IsSynced r)
    → ((i k m : Image) → Q i k → SyncedOk k m → R i m) → ((i k m : Image) → Q i k → SyncedErr k m → S i m)
    → OnOk r (Changes a d R) × OnErr r (Changes a d S)
sync_tail (Ok x) a c d Q R S q s f g = (changes_trans a c d Q SyncedOk R q s f, tt)
sync_tail (Err e) a c d Q R S q s f g = (tt, changes_trans a c d Q SyncedErr S q s g)

pub sync_only : {E : Type 0} (r : Result Unit E) (a d : Option Image) (H : Image → Type 0)
    (R S : Image → Image → Type 0) → IfSome a H → Changes a d (IsSynced r)
    → ((i m : Image) → H i → SyncedOk i m → R i m) → ((i m : Image) → H i → SyncedErr i m → S i m)
    → OnOk r (Changes a d R) × OnErr r (Changes a d S)
sync_only (Ok x) a d H R S h s f g = (changes_from a d H SyncedOk R h s f, tt)
sync_only (Err e) a d H R S h s f g = (tt, changes_from a d H SyncedErr S h s g)

prefix-take : (n : ℕ) (xs : List ℕ) → IsPrefix (take n xs) xs
prefix-take n xs = (drop n xs, sym (take-append-drop n xs))

-- ---- the first line

pub fresh_rest : (text rest header : List ℕ) (bytes : ℕ) → IsFresh text → bytes ≡ length text → header ≡ header_line
    → rest ≡ drop (min bytes 13) header → text ++ rest ≡ header_line
fresh_rest text rest header bytes fresh n is e =
    let few = fresh.1 in
    let small : min bytes 13 ≡ length text = omega (arith, few, header_length, n) in
    let back : rest ≡ fresh.0.0 = e ∙ ap (λ k. drop k header) small ∙ ap (drop (length text)) (is ∙ fresh.0.1) ∙ drop-append_seam text fresh.0.0 in
    ap (λ l. text ++ l) back ∙ sym fresh.0.1

module _ (bytes : ℕ) (rest header : List ℕ) (is : header ≡ header_line) (e : rest ≡ drop (min bytes 13) header) where
  abbrev pub Begun : Image → Type 0
  Begun i = (i.doubted ≡ false) × IsFresh i.contents × (bytes ≡ length i.contents)

  abbrev pub Steady : Image → Image → Type 0
  Steady i j = Begun i × (j.contents ≡ i.contents) × (j.doubted ≡ false)

  abbrev pub Written : Image → Image → Type 0
  Written i k = IsFresh i.contents × (k.contents ≡ header_line) × (k.doubted ≡ false) × IsPrefix k.written header_line

  abbrev pub BeginOk : Image → Image → Type 0
  BeginOk i j = IsSettled j × (j.contents ≡ header_line)

  abbrev pub BeginErr : Image → Image → Type 0
  BeginErr i j = IsFresh i.contents × (IsPrefix j.written i.written ⊎ IsPrefix j.written header_line)

  pub first_sync : (a b : Option Image) → IfSome a Begun → Changes a b SyncedOk → Changes a b Steady
  first_sync a b h s = changes_from a b Begun SyncedOk Steady h s (λ i j h s. (h, s.0.contents, (s.1 h.0).trusted))

  whole : (i j : Image) → Steady i j → j.contents ++ rest ≡ header_line
  whole i j st = ap (λ l. l ++ rest) st.1 ∙ fresh_rest i.contents rest header bytes st.0.1 st.0.2 is e

  pub append_done : (a b d : Option Image) → Changes a b Steady
      → Changes b d (λ j k. Grows rest j k × (k.contents ≡ j.contents ++ rest)) → Changes a d Written
  append_done a b d st g =
      changes_trans a b d Steady (λ j k. Grows rest j k × (k.contents ≡ j.contents ++ rest)) Written st g
      (λ i j k st g. (st.0.1, g.1 ∙ whole i j st, g.0.doubted ∙ st.2, subst (IsPrefix k.written) (whole i j st) g.0.most))

  pub append_fails : (a b d : Option Image) → Changes a b Steady → Changes b d (λ j k. Grows rest j k × ⊤)
      → Changes a d BeginErr
  append_fails a b d st g =
      changes_trans a b d Steady (λ j k. Grows rest j k × ⊤) BeginErr st g
      (λ i j k st g. (st.0.1, inr (subst (IsPrefix k.written) (whole i j st) g.0.most)))

  pub last_sync : {E : Type 0} (r : Result Unit E) (a c d : Option Image) → Changes a c Written
      → Changes c d (IsSynced r) → OnOk r (Changes a d BeginOk) × OnErr r (Changes a d BeginErr)
  last_sync r a c d w s =
      sync_tail r a c d Written BeginOk BeginErr w s
      (λ i k m w s. (s.1 w.2, s.0.contents ∙ w.1))
      (λ i k m w s. (w.0, inr (prefix-trans m.written k.written header_line s.0.most w.3)))

-- ---- a torn line

module _ (len torn : ℕ) where
  abbrev pub Torn : Image → Type 0
  Torn i = (i.doubted ≡ false) × (length i.contents ≡ len + torn)

  abbrev pub SettleOk : Image → Image → Type 0
  SettleOk i j = IsSettled j × (j.contents ≡ take len i.contents)

  abbrev pub SettleErr : Image → Image → Type 0
  SettleErr i j = IsPrefix (take len i.synced) j.synced × IsPrefix j.written i.written

  pub none_torn : {E : Type 0} (r : Result Unit E) (a d : Option Image) → torn ≡ 0 → IfSome a Torn
      → Changes a d (IsSynced r) → OnOk r (Changes a d SettleOk) × OnErr r (Changes a d SettleErr)
  none_torn r a d none h s =
      sync_only r a d Torn SettleOk SettleErr h s
      (λ i m h s. (s.1 h.0, s.0.contents ∙ sym (take_all len i.contents (omega (arith, h.1, none)))))
      (λ i m h s. (prefix-trans (take len i.synced) i.synced m.synced (prefix-take len i.synced) s.0.least, s.0.most))

-- ---- what was found

pub at_start : (image : Option Image) (left : Option (List ℕ)) (P : List ℕ → Type 0) → IsAtStart image left
    → IfSome left P → IfSome image (λ i. (i.doubted ≡ false) × P i.contents)
at_start None left P start h = tt
at_start (Some i) left P start h = (start.1, subst (λ l. IfSome l P) start.0 h)

none_lost : IsTorn []
none_lost = record { plain = has_none [] tt; short = omega arith }

pub opened_fresh : (text journal after : _) → IsFresh text → journal ≡ [] → after ≡ header_line
    → IsOpened text journal 0 after
opened_fresh text journal after fresh none is = record {
  ops = [];
  rest = [];
  said = inr (fresh, refl, refl);
  taken = none;
  torn = refl;
  left = record { pieces = []; whole = is ∙ sym (append-nil header_line); says = tt; torn = none_lost };
  same = inr is;
}

pub opened_lines : (text journal after : _) (ops : List Operation) (rest : List ℕ) (len torn : ℕ) → SaysJournal text ops rest
    → journal ≡ all_arrived [] ops → torn ≡ length rest → length text ≡ len + torn → after ≡ take len text
    → IsOpened text journal torn after
opened_lines text journal after ops rest len torn says taken few n cut =
    let front : List ℕ = header_line ++ whole_lines says.pieces in
    let whole : text ≡ front ++ rest = says.whole ∙ sym (append_assoc header_line (whole_lines says.pieces) rest) in
    let count : len ≡ length front = omega (arith, ap length whole, length-append front rest, few, n) in
    let is : after ≡ front = cut ∙ ap (λ k. take k text) count ∙ ap (take (length front)) whole ∙ take_at front rest _ refl in record {
      ops = ops;
      rest = rest;
      said = inl says;
      taken = taken;
      torn = few;
      left = record {
        pieces = says.pieces;
        whole = is ∙ ap (λ l. header_line ++ l) (sym (append-nil (whole_lines says.pieces)));
        says = says.says;
        torn = none_lost;
      };
      same = inl (whole ∙ ap (λ l. l ++ rest) (sym is));
    }

-- ---- at what calls answer

always : (image : Option Image) (P : Image → Type 0) → ((i : Image) → P i) → IfSome image P
always None P f = tt
always (Some i) P f = f i

module _ (image found after : Option Image) (left : Option (List ℕ)) (start : IsAtStart image left)
    (same : found ≡ image) where
  moved : (Q : Image → Image → Type 0) → Changes found after Q → Changes image after Q
  moved Q c = subst (λ f. Changes f after Q) same c

  pub fresh_opens : (journal : List Operation) (bytes len : ℕ)
      → IfSome left (λ text. IsFresh text × (bytes ≡ length text)) → journal ≡ [] → len ≡ 13
      → Changes found after (λ i j. IsSettled j × (j.contents ≡ header_line))
      → Changes image after (λ i j. IsSettled j × (length j.contents ≡ len) × IsOpened i.contents journal 0 j.contents)
  fresh_opens journal bytes len h none count c =
      changes_from image after (λ i. (i.doubted ≡ false) × (IsFresh i.contents × (bytes ≡ length i.contents)))
      (λ i j. IsSettled j × (j.contents ≡ header_line))
      (λ i j. IsSettled j × (length j.contents ≡ len) × IsOpened i.contents journal 0 j.contents)
      (at_start image left (λ text. IsFresh text × (bytes ≡ length text)) start h)
      (moved (λ i j. IsSettled j × (j.contents ≡ header_line)) c)
      (λ i j h c. (c.0, ap length c.1 ∙ header_length ∙ sym count, opened_fresh i.contents journal j.contents h.1.0 none c.1))

  pub lines_open : (journal : List Operation) (len torn : ℕ)
      → IfSome left (λ text. IsFoundText text (Lines journal len torn))
      → Changes found after (λ i j. IsSettled j × (j.contents ≡ take len i.contents))
      → Changes image after
      (λ i j. IsSettled j × (length j.contents ≡ len) × IsOpened i.contents journal torn j.contents)
  lines_open journal len torn h c =
      changes_from image after (λ i. (i.doubted ≡ false) × IsFoundText i.contents (Lines journal len torn))
      (λ i j. IsSettled j × (j.contents ≡ take len i.contents))
      (λ i j. IsSettled j × (length j.contents ≡ len) × IsOpened i.contents journal torn j.contents)
      (at_start image left (λ text. IsFoundText text (Lines journal len torn)) start h)
      (moved (λ i j. IsSettled j × (j.contents ≡ take len i.contents)) c)
      (λ i j h c. (
        c.0,
        ap length c.1 ∙ length-take len i.contents ∙ omega (arith, h.1.5),
        opened_lines i.contents journal j.contents h.1.0 h.1.1 len torn h.1.2 h.1.3 h.1.4 h.1.5 c.1,
      ))

  pub lines_fail : (journal : List Operation) (len torn : ℕ)
      → IfSome left (λ text. IsFoundText text (Lines journal len torn))
      → Changes found after (λ i j. IsPrefix (take len i.synced) j.synced × IsPrefix j.written i.written)
      → Changes image after IsUnharmed
  lines_fail journal len torn h c =
      changes_from image after (λ i. (i.doubted ≡ false) × IsFoundText i.contents (Lines journal len torn))
      (λ i j. IsPrefix (take len i.synced) j.synced × IsPrefix j.written i.written) IsUnharmed
      (at_start image left (λ text. IsFoundText text (Lines journal len torn)) start h)
      (moved (λ i j. IsPrefix (take len i.synced) j.synced × IsPrefix j.written i.written) c)
      (λ i j h c.
      let e : length i.contents - length h.1.1 ≡ len = omega (arith, h.1.4, h.1.5) in
      inr (inr (h.1.0, h.1.1, h.1.2, subst (λ k. IsPrefix (take k i.synced) j.synced) (sym e) c.0, c.1)))
