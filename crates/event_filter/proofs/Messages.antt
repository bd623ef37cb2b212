-- What is kept of a message names the same changes as the message, and fits a body.
use Rattle.std.proofs.Common.{◌≡◌, ◌<◌, ◌≤◌, ◌+◌, ◌-◌, ◌++◌, ◌∷◌, [], ℕ, zero, suc, Bool, true, false, List, length, map}
use Rattle.std.proofs.Common.{take, inl, inr}
use Rattle.std.proofs.Common.{refl, sym, ap, ◌∙◌, subst, arith, append_assoc, eqb, length-append}
use Rattle.std.specs.Prelude.{◌⊎◌, ◌&&◌, All, Contains, codes, filter, if◌then◌else◌, nat_lt, slice_index_or}
use Rattle.std.specs.Char.{to_ascii_lowercase}
use Rattle.std.specs.List.{onto_first}
use Rattle.std.proofs.lemmas.Bool.Decides.{nat_tests}
use Rattle.std.proofs.lemmas.List.{map-append}
use Rattle.std.proofs.lemmas.List.Elements.{All-cons, All-nil, Contains-append_left, Contains-push_cases}
use Rattle.std.proofs.lemmas.List.Splits.{slice_split_at, slice_split-cons_no, slice_split-cons_yes}
use Rattle.std.proofs.lemmas.Slice.Eq.{bytes_eq-Decides}
use Rattle.footer_text.specs.Footers.{LinesNeed, MessageNeeds}
use Rattle.footer_text.specs.Lines.{IsFooter, lines_of}
use Rattle.gerrit_events.specs.Messages.{ended, fitting, footers_of, has_lost_footers, is_footer_line, kept_message}

-- ---- lines without a line end

abbrev Plain : List ℕ → Type 0
Plain line = All (λ byte. eqb byte 10 ≡ false) line

abbrev ArePlain : List (List ℕ) → Type 0
ArePlain [] = Unit {0}
ArePlain (line ∷ lines) = Plain line × ArePlain lines

plain_first : (byte : ℕ) → eqb byte 10 ≡ false → (lines : List (List ℕ)) → ArePlain lines
    → ArePlain (onto_first byte lines)
plain_first byte other [] plain = (All-cons (λ b. eqb b 10 ≡ false) byte [] other (All-nil (λ b. eqb b 10 ≡ false)), tt)
plain_first byte other (line ∷ lines) plain =
    (All-cons (λ b. eqb b 10 ≡ false) byte line other plain.0, plain.1)

plain_lines : (text : List ℕ) → ArePlain (lines_of text)
plain_lines [] = (All-nil (λ b. eqb b 10 ≡ false), tt)
plain_lines (byte ∷ text) = by_end (eqb byte 10) refl (plain_lines text) where
  by_end : (ends : Bool) → eqb byte 10 ≡ ends → ArePlain (lines_of text) → ArePlain (lines_of (byte ∷ text))
  by_end true is plain = subst ArePlain (sym (slice_split-cons_yes (λ b. eqb b 10) byte text is))
      (All-nil (λ b. eqb b 10 ≡ false), plain)
  by_end false is plain = subst ArePlain (sym (slice_split-cons_no (λ b. eqb b 10) byte text is))
      (plain_first byte is (lines_of text) plain)

-- ---- what is kept, as lines

abbrev kept_if : List ℕ → List (List ℕ) → Bool → List (List ℕ)
kept_if line lines is = if is then line ∷ lines else lines

plain_if : (line : List ℕ) (lines : List (List ℕ)) (is : Bool) → Plain line → ArePlain lines
    → ArePlain (kept_if line lines is)
plain_if line lines true plain others = (plain, others)
plain_if line lines false plain others = others

plain_kept : (lines : List (List ℕ)) → ArePlain lines → ArePlain (filter is_footer_line lines)
plain_kept [] plain = tt
plain_kept (line ∷ lines) plain =
    plain_if line (filter is_footer_line lines) (is_footer_line line) plain.0 (plain_kept lines plain.1)

-- lines with their ends are cut into the lines, and an empty one after the last end
cut_again : (lines : List (List ℕ)) → ArePlain lines → lines_of (ended lines) ≡ lines ++ [] ∷ []
cut_again [] plain = refl
cut_again (line ∷ lines) plain =
    ap lines_of (append_assoc line (10 ∷ []) (ended lines))
    ∙ slice_split_at (λ b. eqb b 10) line 10 (ended lines) plain.0 refl
    ∙ ap (λ ls. line ∷ ls) (cut_again lines plain.1)

-- ---- which lines there are

abbrev shifted : (first line : List ℕ) (lines : List (List ℕ)) → Contains lines line → Contains (first ∷ lines) line
shifted first line lines there = (suc there.0, omega (arith, there.1), there.2)

first_or_later : (first line : List ℕ) (lines : List (List ℕ)) (k : ℕ) → k < length (first ∷ lines)
    → slice_index_or (first ∷ lines) k line ≡ line → (first ≡ line) ⊎ Contains lines line
first_or_later first line lines zero within is = inl is
first_or_later first line lines (suc k) within is = inr (k, omega (arith, within), is)

put_there : (first line : List ℕ) (lines : List (List ℕ)) (is : Bool) → is_footer_line first ≡ is
    → (first ≡ line) ⊎ Contains lines line → is_footer_line line ≡ true → Contains (kept_if first lines is) line
put_there first line lines true is (inl same) footer = (0, omega arith, same)
put_there first line lines true is (inr later) footer = shifted first line lines later
put_there first line lines false is (inl same) footer =
    let other : is_footer_line line ≡ false = ap is_footer_line (sym same) ∙ is in cc
put_there first line lines false is (inr later) footer = later

or_later : {A B C : Type 0} → A ⊎ B → (B → C) → A ⊎ C
or_later (inl here) kept = inl here
or_later (inr later) kept = inr (kept later)

is_kept : (lines : List (List ℕ)) (line : List ℕ) → Contains lines line → is_footer_line line ≡ true
    → Contains (filter is_footer_line lines) line
is_kept [] line there footer = there
is_kept (first ∷ lines) line there footer =
    put_there first line (filter is_footer_line lines) (is_footer_line first) refl
    (or_later (first_or_later first line lines there.0 there.1 there.2) (λ later. is_kept lines line later footer)) footer

taken_back : (first line : List ℕ) (kept lines : List (List ℕ)) (is : Bool) → Contains (kept_if first kept is) line
    → (Contains kept line → Contains lines line) → Contains (first ∷ lines) line
taken_back first line kept lines true there back =
    elim (first_or_later first line kept there.0 there.1 there.2) [
      | inl same ↦ (0, omega arith, same)
      | inr later ↦ shifted first line lines (back later)
    ]
taken_back first line kept lines false there back = shifted first line lines (back there)

was_there : (lines : List (List ℕ)) (line : List ℕ) → Contains (filter is_footer_line lines) line → Contains lines line
was_there [] line there = there
was_there (first ∷ lines) line there =
    taken_back first line (filter is_footer_line lines) lines (is_footer_line first) there (was_there lines line)

-- ---- footers

begins_so : (rest : List ℕ) → take 11 (codes "depends-on" ++ 58 ∷ rest) ≡ codes "depends-on:"
begins_so rest = refl

is_footer : (line value : List ℕ) → IsFooter line value → is_footer_line line ≡ true
is_footer line value footer =
    let low : map to_ascii_lowercase line ≡ codes "depends-on" ++ 58 ∷ map to_ascii_lowercase footer.rest
    = ap (map to_ascii_lowercase) footer.whole
    ∙ map-append to_ascii_lowercase footer.word (58 ∷ footer.rest)
    ∙ ap (λ word. word ++ 58 ∷ map to_ascii_lowercase footer.rest) footer.is_word in
    (bytes_eq-Decides (take 11 (map to_ascii_lowercase line)) (codes "depends-on:")).1
    (ap (take 11) low ∙ begins_so (map to_ascii_lowercase footer.rest))

no_footer : (value : List ℕ) → IsFooter [] value → ⊥
no_footer value footer = omega (arith, ap length footer.whole, length-append footer.word (58 ∷ footer.rest))

-- ---- the first lines, as many as fit

abbrev first_if : List ℕ → List (List ℕ) → Bool → List (List ℕ)
first_if line later fits = if fits then line ∷ later else []

-- what is left of the room behind a line
abbrev room_behind : ℕ → List ℕ → ℕ
room_behind room line = room - suc (length line)

plain_first_if : (line : List ℕ) (later : List (List ℕ)) (fits : Bool) → Plain line → ArePlain later
    → ArePlain (first_if line later fits)
plain_first_if line later true plain others = (plain, others)
plain_first_if line later false plain others = tt

plain_fitting : (room : ℕ) (lines : List (List ℕ)) → ArePlain lines → ArePlain (fitting room lines)
plain_fitting room [] plain = tt
plain_fitting room (line ∷ lines) plain =
    plain_first_if line (fitting (room_behind room line) lines) (nat_lt (length line) room) plain.0
    (plain_fitting (room_behind room line) lines plain.1)

fitted_back : (first line : List ℕ) (later lines : List (List ℕ)) (fits : Bool) → Contains (first_if first later fits) line
    → (Contains later line → Contains lines line) → Contains (first ∷ lines) line
fitted_back first line later lines true there back = taken_back first line later lines true there back
fitted_back first line later lines false there back = absurd (omega (arith, there.1))

was_fitting : (room : ℕ) (lines : List (List ℕ)) (line : List ℕ) → Contains (fitting room lines) line
    → Contains lines line
was_fitting room [] line there = there
was_fitting room (first ∷ lines) line there =
    fitted_back first line (fitting (room_behind room first) lines) lines (nat_lt (length first) room) there
    (was_fitting (room_behind room first) lines line)

ended_length : (line : List ℕ) (lines : List (List ℕ))
    → length (ended (line ∷ lines)) ≡ suc (length line) + length (ended lines)
ended_length line lines =
    ap length (append_assoc line (10 ∷ []) (ended lines)) ∙ omega (arith, length-append line (10 ∷ ended lines))

all_fit_by : (room : ℕ) (line : List ℕ) (lines : List (List ℕ)) (fits : Bool) → nat_lt (length line) room ≡ fits
    → length (ended (line ∷ lines)) ≤ room
    → (length (ended lines) ≤ room_behind room line → fitting (room_behind room line) lines ≡ lines)
    → first_if line (fitting (room_behind room line) lines) fits ≡ line ∷ lines
all_fit_by room line lines true is short later =
    ap (λ ls. line ∷ ls) (later (omega (arith, short, ended_length line lines)))
all_fit_by room line lines false is short later =
    let long : room ≤ length line = grind (arith, nat_tests, is) in
    absurd (omega (arith, long, short, ended_length line lines))

all_fit : (room : ℕ) (lines : List (List ℕ)) → length (ended lines) ≤ room → fitting room lines ≡ lines
all_fit room [] short = refl
all_fit room (line ∷ lines) short =
    all_fit_by room line lines (nat_lt (length line) room) refl short (all_fit (room_behind room line) lines)

fits_by : (room : ℕ) (line : List ℕ) (later : List (List ℕ)) (fits : Bool) → nat_lt (length line) room ≡ fits
    → length (ended later) ≤ room_behind room line → length (ended (first_if line later fits)) ≤ room
fits_by room line later true is short =
    let one : length line < room = grind (arith, nat_tests, is) in
    omega (arith, one, short, ended_length line later)
fits_by room line later false is short = omega arith

fits : (room : ℕ) (lines : List (List ℕ)) → length (ended (fitting room lines)) ≤ room
fits room [] = omega arith
fits room (line ∷ lines) =
    fits_by room line (fitting (room_behind room line) lines) (nat_lt (length line) room) refl
    (fits (room_behind room line) lines)

-- ---- what is kept names the same

abbrev kept_of : List (List ℕ) → List (List ℕ)
kept_of lines = fitting 65536 (filter is_footer_line lines)

plain_kept_of : (lines : List (List ℕ)) → ArePlain lines → ArePlain (kept_of lines)
plain_kept_of lines plain = plain_fitting 65536 (filter is_footer_line lines) (plain_kept lines plain)

kept_need : (bases : List (List ℕ)) (own : ℕ) (lines : List (List ℕ)) (change : ℕ) → ArePlain lines
    → LinesNeed bases own (lines_of (ended (kept_of lines))) change → LinesNeed bases own lines change
kept_need bases own lines change plain need =
    let there = subst (λ ls. Contains ls need.0) (cut_again (kept_of lines) (plain_kept_of lines plain)) need.1 in
    elim (Contains-push_cases (kept_of lines) [] need.0 there) [
      | inl kept ↦ (need.0, was_there lines need.0 (was_fitting 65536 (filter is_footer_line lines) need.0 kept), need.2)
      | inr empty ↦ absurd (no_footer need.2.0 (subst (λ l. IsFooter l need.2.0) (sym empty) need.2.1))
    ]

need_kept : (bases : List (List ℕ)) (own : ℕ) (lines : List (List ℕ)) (change : ℕ) → ArePlain lines
    → length (ended (filter is_footer_line lines)) ≤ 65536
    → LinesNeed bases own lines change → LinesNeed bases own (lines_of (ended (kept_of lines))) change
need_kept bases own lines change plain short need = (
  need.0,
  subst (λ ls. Contains ls need.0)
      (sym (cut_again (kept_of lines) (plain_kept_of lines plain) ∙ ap (λ ls. ls ++ [] ∷ []) (all_fit 65536 (filter is_footer_line lines) short)))
      (Contains-append_left (filter is_footer_line lines) ([] ∷ []) need.0
      (is_kept lines need.0 need.1 (is_footer need.0 need.2.0 need.2.1))),
  need.2,
)

abbrev kept_where : List ℕ → Bool → List ℕ
kept_where message is_long = if is_long then ended (fitting 65536 (footers_of message)) else message

no_more_where : (bases : List (List ℕ)) (own : ℕ) (message : List ℕ) (change : ℕ) (is_long : Bool)
    → MessageNeeds bases own (kept_where message is_long) change → MessageNeeds bases own message change
no_more_where bases own message change true need = kept_need bases own (lines_of message) change (plain_lines message) need
no_more_where bases own message change false need = need

-- what is kept of a message names no change but those that the message names
pub kept_names_no_more : (bases : List (List ℕ)) (own : ℕ) (message : List ℕ) (change : ℕ)
    → MessageNeeds bases own (kept_message message) change → MessageNeeds bases own message change
kept_names_no_more bases own message change need = no_more_where bases own message change _ need

all_where : (bases : List (List ℕ)) (own : ℕ) (message : List ℕ) (change : ℕ) (is_long : Bool)
    → (is_long && nat_lt 65536 (length (ended (footers_of message)))) ≡ false
    → MessageNeeds bases own message change → MessageNeeds bases own (kept_where message is_long) change
all_where bases own message change true unlost need =
    let short : length (ended (footers_of message)) ≤ 65536 = grind (arith, nat_tests, unlost) in
    need_kept bases own (lines_of message) change (plain_lines message) short need
all_where bases own message change false unlost need = need

-- and where no footers are lost all of those
pub kept_names_all : (bases : List (List ℕ)) (own : ℕ) (message : List ℕ) → has_lost_footers message ≡ false
    → (change : ℕ) → MessageNeeds bases own message change → MessageNeeds bases own (kept_message message) change
kept_names_all bases own message unlost change need = all_where bases own message change _ unlost need

-- what is kept of a message fits a body
pub kept_fits : (message : List ℕ) → length (kept_message message) ≤ 65536
kept_fits message = by_length (nat_lt 65536 (length message)) refl where
  by_length : (is_long : Bool) → nat_lt 65536 (length message) ≡ is_long → length (kept_where message is_long) ≤ 65536
  by_length true is = fits 65536 (footers_of message)
  by_length false is = grind (arith, nat_tests, is)
