-- How a text passes to a drain, piece by piece.
use Rattle.std.proofs.Common.{◌≡◌, ℕ, ◌+◌, ◌<◌, List, [], ◌∷◌, ◌++◌, length, take, drop, get_or, flat_map, sym, ap, ◌∙◌}
use Rattle.std.proofs.Common.{subst, arith, append_assoc, length-append, take-append-drop, Option}
use Rattle.std.proofs.lemmas.List.{append-nil, take-append-le, take_more}
use Rattle.std.proofs.lemmas.Grind.{flat_map-append}
use Rattle.std.proofs.Math.Seq.{take-append-add}
use Rattle.std.specs.Io.KnownBytes.{Appends}
use Rattle.std.proofs.KnownBytes.{Appends-trans}
use Rattle.report_text.specs.Pages.{IsCut, PassesPage}

-- a text that is cut is cut whatever comes after it
pub IsCut-more : (a c : Option (List ℕ)) (s t : List ℕ) → IsCut a c s → IsCut a c (s ++ t)
IsCut-more a c s t cut =
    let within : cut.0 < length s = cut.1 in (
      cut.0,
      omega (arith, length-append s t),
      subst (Appends a c) (sym (take-append-le cut.0 s t (omega arith))) cut.2,
    )

module _ (a b c : Option (List ℕ)) (w v s t : List ℕ) (passes : PassesPage a w b v s) where
  whole : w ++ (s ++ t) ≡ passes.written ++ (v ++ t)
  whole = sym (append_assoc w s t) ∙ ap (λ l. l ++ t) passes.same ∙ append_assoc passes.written v t

  -- a text is added to what waits
  pub Passes-added : (u : List ℕ) → u ≡ v ++ t → PassesPage a w b u (s ++ t)
  Passes-added u is =
      record { written = passes.written; took = passes.took; same = whole ∙ ap (λ l. passes.written ++ l) (sym is) }

  -- another text passes
  pub Passes-then : (u : List ℕ) → PassesPage b v c u t → PassesPage a w c u (s ++ t)
  Passes-then u next = record {
    written = passes.written ++ next.written;
    took = Appends-trans a b c passes.written next.written passes.took next.took;
    same = whole ∙ ap (λ l. passes.written ++ l) next.same ∙ sym (append_assoc passes.written next.written u);
  }

  -- what waits, and a text after it, is cut
  pub Passes-cut : IsCut b c (v ++ t) → IsCut a c (w ++ (s ++ t))
  Passes-cut cut =
      let within : cut.0 < length (v ++ t) = cut.1 in
      let front : take (length passes.written + cut.0) (w ++ (s ++ t)) ≡ passes.written ++ take cut.0 (v ++ t) =
      ap (take (length passes.written + cut.0)) whole ∙ take-append-add passes.written (v ++ t) cut.0 in (
        length passes.written + cut.0,
        omega (arith, ap length whole, length-append passes.written (v ++ t)),
        subst (Appends a c) (sym front) (Appends-trans a b c passes.written (take cut.0 (v ++ t)) passes.took cut.2),
      )

-- room is made on the page
pub Passes-room : (a b c : Option (List ℕ)) (w v u s : List ℕ) → PassesPage a w b v s → PassesPage b v c u [] → PassesPage a w c u s
Passes-room a b c w v u s passes room = subst (PassesPage a w c u) (append-nil s) (Passes-then a b c w v s [] passes u room)

-- ---- lines, of which some have passed

module _ {X : Type 0} (line : X → List ℕ) (xs : List X) (i : ℕ) where
  lines_more : (x d : X) → i < length xs → x ≡ get_or xs i d
      → flat_map line (take i xs) ++ line x ≡ flat_map line (take (i + 1) xs)
  lines_more x d within is =
      ap (λ l. flat_map line (take i xs) ++ l) (ap line is ∙ sym (append-nil (line (get_or xs i d))))
      ∙ sym (flat_map-append line (take i xs) (get_or xs i d ∷ []))
      ∙ ap (flat_map line) (sym (take_more xs i d within))

  lines_rest : flat_map line (take i xs) ++ flat_map line (drop i xs) ≡ flat_map line xs
  lines_rest = sym (flat_map-append line (take i xs) (drop i xs)) ∙ ap (flat_map line) (take-append-drop i xs)

  module _ (a b c : Option (List ℕ)) (w v : List ℕ) (passes : PassesPage a w b v (flat_map line (take i xs))) where
    -- room is made for one more line, and it is added
    pub line_added : (u added : List ℕ) (x d : X) → i < length xs → x ≡ get_or xs i d → PassesPage b v c u []
        → added ≡ u ++ line x → PassesPage a w c added (flat_map line (take (i + 1) xs))
    line_added u added x d within is room more =
        subst (PassesPage a w c added) (lines_more x d within is)
        (Passes-added a c c w u (flat_map line (take i xs)) (line x) (Passes-room a b c w v u (flat_map line (take i xs)) passes room) added more)

    -- what waits is cut, and with it all lines
    pub lines_cut : IsCut b c v → IsCut a c (w ++ flat_map line xs)
    lines_cut cut =
        subst (λ l. IsCut a c (w ++ l)) lines_rest
        (Passes-cut a b c w v (flat_map line (take i xs)) (flat_map line (drop i xs)) passes (IsCut-more b c v (flat_map line (drop i xs)) cut))

-- ---- a whole text, of some parts that have passed and a last one

module _ (a b c : Option (List ℕ)) (w v s t : List ℕ) (empty : w ≡ []) (passes : PassesPage a w b v s) where
  -- the cut is in what waits
  pub cut_before : IsCut b c v → IsCut a c (s ++ t)
  cut_before cut =
      subst (λ l. IsCut a c (l ++ (s ++ t))) empty (Passes-cut a b c w v s t passes (IsCut-more b c v t cut))

  -- the cut is in what waits and the last part
  pub cut_in_last : (u : List ℕ) → u ≡ v ++ t → IsCut b c u → IsCut a c (s ++ t)
  cut_in_last u is cut =
      subst (λ l. IsCut a c (l ++ (s ++ t))) empty (Passes-cut a b c w v s t passes (subst (IsCut b c) is cut))
