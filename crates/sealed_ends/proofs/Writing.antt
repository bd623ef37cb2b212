-- A line more that was sealed and sent, and one that was sent in part.
use Rattle.std.proofs.Common.{◌≡◌, ◌≢◌, ℕ, ◌<◌, ◌≤◌, ◌+◌, ◌-◌, ◌==◌, ◌&&◌, ◌++◌, [], ◌∷◌, true, false, Bool, List, Option, Some, None, sym, ◌∙◌, ap, refl, arith, length, take, drop, length-append, append_assoc, append-nil, take-append-drop, cond}
use Rattle.std.specs.Prelude.{is_some, option_and_then, option_map}
use Rattle.std.proofs.lemmas.List.{drop_all, length-take-le, take-append-le}
use Rattle.std.proofs.lemmas.List.Elements.{All-take}
use Rattle.std.proofs.lemmas.Bool.{and_from, and_parts, eq-eqb, eqb-true}
use Rattle.std.proofs.Math.Seq.{take-append_seam, drop-append-le}
use Rattle.std.proofs.KnownBytes.{Appends-trans, Appends-kept}
use Rattle.std.specs.Io.KnownBytes.{Appends, Keeps}
use Rattle.byte_ends.specs.Lines.{as_line}
use Rattle.line_reader.specs.Lines.{HasNoLf}
use Rattle.sealed_line.specs.Sealing.{Sealing, after_line}
use Rattle.sealed_ends.specs.Opened.{opened_line, opened, put_first, opened_texts, then_texts, whole_lines}
use Rattle.sealed_ends.specs.Sent.{IsTakenWhole}
use Rattle.sealed_ends.specs.OpenedFacts.{whole_first, whole_lines-none}
use Rattle.sealed_ends.specs.Written.{all_open, ends_line, is_in_step, sent_last, written_texts}

-- ---- bytes that end with a line end

length-put_first : (b : ℕ) (pieces : List (List ℕ)) → length (put_first b pieces) ≡ length pieces
length-put_first b [] = refl
length-put_first b (piece ∷ pieces) = refl

put_first-append : (b : ℕ) (pieces more : List (List ℕ)) → 0 < length pieces → put_first b (pieces ++ more) ≡ put_first b pieces ++ more
put_first-append b [] more some = absurd (omega (arith, some))
put_first-append b (piece ∷ pieces) more some = refl

-- the pieces after a byte, by whether that is an LF
abbrev pieces_after : Bool → ℕ → List (List ℕ) → List (List ℕ)
pieces_after is b pieces = cond is ([] ∷ pieces) (put_first b pieces)

some_after : (is : Bool) (b : ℕ) (pieces : List (List ℕ)) → 0 < length pieces → 0 < length (pieces_after is b pieces)
some_after true b pieces some = omega arith
some_after false b pieces some = rw (length-put_first b pieces) some

append_after : (is : Bool) (b : ℕ) (pieces more : List (List ℕ)) → 0 < length pieces
    → pieces_after is b (pieces ++ more) ≡ pieces_after is b pieces ++ more
append_after true b pieces more some = refl
append_after false b pieces more some = put_first-append b pieces more some

some_line : (b : ℕ) (bytes : List ℕ) → ends_line b bytes ≡ true → 0 < length (whole_lines (b ∷ bytes))
unfolding ends_line whole_lines
some_line b [] e = rw e (omega arith)
some_line b (c ∷ bytes) e = some_after (b == 10) b (whole_lines (c ∷ bytes)) (some_line c bytes e)

whole_after : (b : ℕ) (bytes more : List ℕ) → ends_line b bytes ≡ true
    → whole_lines (b ∷ bytes ++ more) ≡ whole_lines (b ∷ bytes) ++ whole_lines more
unfolding ends_line whole_lines
whole_after b [] more e = rw e refl
whole_after b (c ∷ bytes) more e =
    ap (pieces_after (b == 10) b) (whole_after c bytes more e)
    ∙ append_after (b == 10) b (whole_lines (c ∷ bytes)) (whole_lines more) (some_line c bytes e)

-- what follows whole lines begins anew
pub whole_lines-append : (bytes more : List ℕ) → ends_line 10 bytes ≡ true → whole_lines (bytes ++ more) ≡ whole_lines bytes ++ whole_lines more
unfolding ends_line whole_lines
whole_lines-append [] more e = refl
whole_lines-append (b ∷ bytes) more e = whole_after b bytes more e

whole_line : (line : List ℕ) → HasNoLf line → whole_lines (as_line line) ≡ line ∷ []
unfolding whole_lines
whole_line line plain = whole_first line [] plain

ends_line-lf : (b : ℕ) (bytes : List ℕ) → ends_line b (bytes ++ 10 ∷ []) ≡ true
unfolding ends_line
ends_line-lf b [] = refl
ends_line-lf b (c ∷ bytes) = ends_line-lf c bytes

pub ends_line-line : (bytes line : List ℕ) → ends_line 10 (bytes ++ as_line line) ≡ true
ends_line-line bytes line = ap (ends_line 10) (sym (append_assoc bytes line (10 ∷ []))) ∙ ends_line-lf 10 (bytes ++ line)

-- ---- one line more

then_texts-append : (text : Option (List ℕ)) (rest more : List ℕ) → is_some text ≡ true → then_texts text (rest ++ more) ≡ then_texts text rest ++ more
then_texts-append None rest more is = cc
then_texts-append (Some text) rest more is = sym (append_assoc (as_line text) rest more)

abbrev pub at_count : Sealing → ℕ → Sealing
at_count s n = record { tags = s.tags; cipher = s.cipher; count = n }

record OpensMore (s : Sealing) (lines : List (List ℕ)) (line text : List ℕ) : Type 0 where
  pub open_all : all_open s (lines ++ line ∷ []) ≡ true
  pub texts : opened_texts s (lines ++ line ∷ []) ≡ opened_texts s lines ++ as_line text

opens_more : (s : Sealing) (lines : List (List ℕ)) (line text : List ℕ) → all_open s lines ≡ true
    → opened_line (at_count s (s.count + length lines)) line ≡ Some text → OpensMore s lines line text
unfolding all_open opened_texts
opens_more s [] line text every is =
    let same : opened_line s line ≡ Some text = ap (λ n. opened_line (at_count s n) line) (omega arith) ∙ is in
    record { open_all = rw same refl; texts = rw same (append-nil (as_line text)) }
opens_more s (first ∷ lines) line text every is =
    let parts = and_parts (is_some (opened_line s first)) (all_open (after_line s) lines) every in
    let next : opened_line (at_count (after_line s) (s.count + 1 + length lines)) line ≡ Some text =
    ap (λ n. opened_line (at_count s n) line) (omega arith) ∙ is in
    let more = opens_more (after_line s) lines line text parts.1 next in
    record {
      open_all = and_from (is_some (opened_line s first)) (all_open (after_line s) (lines ++ line ∷ [])) parts.0 more.open_all;
      texts = ap (then_texts (opened_line s first)) more.texts
          ∙ then_texts-append (opened_line s first) (opened_texts (after_line s) lines) (as_line text) parts.0;
    }

-- ---- what is taken

module _ (s : Sealing) (next : ℕ) (held since : List ℕ) where
  module _ (piece line : List ℕ) (plain : HasNoLf line) (is : opened_line (at_count s next) line ≡ Some (held ++ piece)) where
    sent_line : (step : Bool) → is_in_step s next since ≡ step
        → Appends (cond step (Some (opened s since ++ held)) None) (written_texts s (next + 1) false [] (since ++ as_line line)) (as_line piece)
    sent_line false e = tt
    sent_line true e =
        let parts = and_parts (ends_line 10 since) (all_open s (whole_lines since) && (s.count + length (whole_lines since) == next)) e in
        let inner = and_parts (all_open s (whole_lines since)) (s.count + length (whole_lines since) == next) parts.1 in
        let count : s.count + length (whole_lines since) ≡ next = eqb-true (s.count + length (whole_lines since)) next inner.1 in
        let here : opened_line (at_count s (s.count + length (whole_lines since))) line ≡ Some (held ++ piece) = ap (λ n. opened_line (at_count s n) line) count ∙ is in
        let more = opens_more s (whole_lines since) line (held ++ piece) inner.0 here in
        let lines : whole_lines (since ++ as_line line) ≡ whole_lines since ++ line ∷ [] =
        whole_lines-append since (as_line line) parts.0 ∙ ap (λ l. whole_lines since ++ l) (whole_line line plain) in
        let ends = ends_line-line since line in
        let counted : (s.count + length (whole_lines since ++ line ∷ []) == next + 1) ≡ true =
        eq-eqb _ _ (omega (arith, count, length-append (whole_lines since) (line ∷ []))) in
        rw (lines, ends, more.open_all, counted, more.texts)
        (append-nil _ ∙ ap (λ l. opened s since ++ l) (append_assoc held piece (10 ∷ [])) ∙ sym (append_assoc (opened s since) held (as_line piece)))

    -- lines that were sealed and sent whole, by what the drain within took before and after
    pub taken_line : Appends (written_texts s next false held since) (written_texts s (next + 1) false [] (since ++ as_line line)) (as_line piece)
    taken_line = sent_line (is_in_step s next since) refl

  -- a line that was sent in part
  sent_part : (step : Bool) (later : ℕ) (part : List ℕ) → HasNoLf part → is_in_step s next since ≡ step
      → Keeps (cond step (Some (opened s since ++ held)) None) (written_texts s later true held (since ++ part))
  sent_part false later part plain e = tt
  sent_part true later part plain e =
      let parts = and_parts (ends_line 10 since) (all_open s (whole_lines since) && (s.count + length (whole_lines since) == next)) e in
      let lines : whole_lines (since ++ part) ≡ whole_lines since =
      whole_lines-append since part parts.0 ∙ ap (λ l. whole_lines since ++ l) (whole_lines-none part plain) ∙ append-nil (whole_lines since) in
      ap (λ l. opened_texts s l ++ held) lines

  pub taken_part : (later : ℕ) (part : List ℕ) → HasNoLf part
      → Keeps (written_texts s next false held since) (written_texts s later true held (since ++ part))
  taken_part later part plain = sent_part (is_in_step s next since) later part plain refl

-- ---- what was sent last

last_of-more : (n : ℕ) (bytes more : List ℕ) → sent_last (n + length more) (bytes ++ more) ≡ sent_last n bytes ++ more
last_of-more n bytes more =
    let long = length-append bytes more in
    let place : length (bytes ++ more) - (n + length more) ≡ length bytes - n = omega (arith, long) in
    ap (λ k. drop k (bytes ++ more)) place ∙ drop-append-le (length bytes - n) bytes more (omega arith)

abbrev pub taken_of : Sealing → ℕ → Bool → List ℕ → ℕ → Option (List ℕ) → Option (List ℕ)
taken_of s next broken held sent took = option_and_then (λ bytes. written_texts s next broken held (sent_last sent bytes)) took

pub line_sent : (s : Sealing) (next : ℕ) (held piece : List ℕ) (sent later : ℕ) (old new : Option (List ℕ)) (line : List ℕ) → HasNoLf line
    → opened_line (at_count s next) line ≡ Some (held ++ piece) → IsTakenWhole old new sent later (as_line line)
    → Appends (taken_of s next false held sent old) (taken_of s (next + 1) false [] later new) (as_line piece)
line_sent s next held piece sent later None new line plain is sends = tt
line_sent s next held piece sent later (Some bytes) None line plain is sends = absurd sends.took
line_sent s next held piece sent later (Some bytes) (Some more) line plain is sends =
    let since : sent_last later more ≡ sent_last sent bytes ++ as_line line =
    ap (λ n. sent_last n more) sends.counted ∙ ap (sent_last (sent + length (as_line line))) sends.took ∙ last_of-more sent bytes (as_line line) in
    rw since (taken_line s next held (sent_last sent bytes) piece line plain is)

pub part_sent : (s : Sealing) (next after : ℕ) (held : List ℕ) (sent later : ℕ) (old new : Option (List ℕ)) (part : List ℕ) → HasNoLf part
    → IsTakenWhole old new sent later part → Keeps (taken_of s next false held sent old) (taken_of s after true held later new)
part_sent s next after held sent later None new part plain sends = tt
part_sent s next after held sent later (Some bytes) None part plain sends = absurd sends.took
part_sent s next after held sent later (Some bytes) (Some more) part plain sends =
    let since : sent_last later more ≡ sent_last sent bytes ++ part =
    ap (λ n. sent_last n more) sends.counted ∙ ap (sent_last (sent + length part)) sends.took ∙ last_of-more sent bytes part in
    rw since (taken_part s next held (sent_last sent bytes) after part plain)

-- nothing of a line that is sent in part is its LF
pub plain_part : (line : List ℕ) (n : ℕ) → HasNoLf line → n < length (as_line line) → HasNoLf (take n (as_line line))
plain_part line n plain short =
    let within : n ≤ length line = omega (arith, short, length-append line (10 ∷ [])) in
    rw (take-append-le n line (10 ∷ []) within) (All-take (λ b. b ≢ 10) n line plain)

-- ---- a loop of writes

module _ (a b c : Option (List ℕ)) (line front rest : List ℕ) (start now : ℕ) (whole : line ≡ front ++ rest) (sends : IsTakenWhole a b start now front) where
  pub sent_more : (n : ℕ) (after : List ℕ) → n ≤ length rest → after ≡ drop n rest → Appends b c (take n rest)
      → (x : List ℕ) × (line ≡ x ++ after) × IsTakenWhole a c start (now + n) x
  sent_more n after within is more =
      let long = length-take-le n rest within in (
        front ++ take n rest,
        whole ∙ ap (λ l. front ++ l) (sym (take-append-drop n rest)) ∙ sym (append_assoc front (take n rest) (drop n rest))
            ∙ ap (λ l. (front ++ take n rest) ++ l) (sym is),
        record {
          took = Appends-trans a b c front (take n rest) sends.took more;
          counted = let count = sends.counted in omega (arith, count, long, length-append front (take n rest));
        },
      )

  pub sent_front : 0 < length rest → Keeps b c → (n : ℕ) × (n < length line) × IsTakenWhole a c start now (take n line)
  sent_front some kept =
      let front_is : take (length front) line ≡ front = ap (take (length front)) whole ∙ take-append_seam front rest in (
        length front,
        omega (arith, ap (λ (l : List ℕ). length l) whole, length-append front rest),
        rw front_is (record { took = Appends-kept a b c front sends.took kept; counted = sends.counted }),
      )

-- a drain that took nothing yet
pub none_taken : (s : Sealing) (first : ℕ) → first ≡ s.count → (held : List ℕ) → held ≡ [] → (took : Option (List ℕ))
    → taken_of (at_count s first) s.count false held 0 took ≡ option_map (λ _. []) took
unfolding ends_line all_open opened_texts whole_lines
none_taken s first is held none None = refl
none_taken s first is held none (Some bytes) =
    let nothing : sent_last 0 bytes ≡ [] = drop_all (length bytes - 0) bytes (omega arith) in
    let same : (first + 0 == s.count) ≡ true = eq-eqb (first + 0) s.count (omega (arith, is)) in
    rw (nothing, same, none) refl
