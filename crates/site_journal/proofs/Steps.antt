-- How the reading of a journal goes on, piece by piece.
use Rattle.std.specs.Io.KnownBytes.{Consumes}
use Rattle.std.specs.Prelude.{IfSome}
use Rattle.site_journal.specs.declared.fault.JournalFault.{JournalFault}
use Rattle.std.proofs.Common.{Option, Some, None, ◌≡◌, ◌≢◌, ℕ, ◌+◌, ◌^◌, ◌<◌, ◌≤◌, List, [], ◌∷◌, ◌++◌, length, take}
use Rattle.std.proofs.Common.{drop, refl, sym, ap, ◌∙◌, subst, arith, append_assoc, append-nil, length-append}
use Rattle.std.proofs.Common.{take-append-drop}
use Rattle.std.proofs.lemmas.List.{take_at, take_all, take-append-le}
use Rattle.byte_ends.specs.Lines.{as_line}
use Rattle.line_reader.specs.Lines.{HasNoLf, line_limit}
use Rattle.review_ops.specs.Operation.{Operation}
use Rattle.replica_core.specs.Journal.{arrived}
use Rattle.replica_core.specs.JournalLaws.{all_arrived-push}
use Rattle.op_text.specs.Spelling.{SpellsOperation, IsRefusalOf}
use Rattle.op_text.specs.declared.field.Form.TheVariants as form
use Rattle.op_text.specs.declared.fault.OpTextFault.{OpTextFault}
use Rattle.op_text.specs.declared.fault.OpTextFault.TheVariants as text
use Rattle.site_journal.specs.declared.fault.LineCause.TheVariants as cause
use Rattle.site_journal.specs.declared.fault.JournalFault.TheVariants.{BadLine}
use Rattle.site_journal.specs.Prefixes.{IsPrefix}
use Rattle.site_journal.specs.Text.{header_line, whole_lines, IsFresh}
use Rattle.site_journal.specs.Fault.{IsNoLine, IsBadHeader, IsJournalRefusal, most_text, line_fault_of}
use Rattle.site_journal.specs.Reading.{HasRead, IsFoundText}
use Rattle.site_journal.specs.declared.reading.Found.TheVariants.{Lines}
use Rattle.site_journal.proofs.Bytes.{has_none}
use Rattle.site_journal.proofs.Lines.{say-append, whole-push, whole-length}
use Rattle.std.proofs.lemmas.List.Elements.{All-append}

-- at the start
pub read_none : HasRead header_line [] [] 2
read_none = record {
  pieces = [];
  ops = [];
  whole = sym (append-nil header_line);
  says = tt;
  torn = record { plain = has_none [] tt; short = omega arith };
  taken = refl;
  count = refl;
}

-- more of a line
pub read_more : (came journal held piece : _) (next : ℕ) → HasNoLf piece → length (held ++ piece) ≤ line_limit
    → HasRead came journal held next → HasRead (came ++ piece) journal (held ++ piece) next
read_more came journal held piece next plain short read = record {
  pieces = read.pieces;
  ops = read.ops;
  whole = ap (λ l. l ++ piece) read.whole ∙ append_assoc header_line (whole_lines read.pieces ++ held) piece
      ∙ ap (λ l. header_line ++ l) (append_assoc (whole_lines read.pieces) held piece);
  says = read.says;
  torn = record { plain = All-append (λ byte. byte ≢ 10) held piece read.torn.plain plain; short = short };
  taken = read.taken;
  count = read.count;
}

-- its end
pub read_line : (came journal held : _) (op : Operation) (next : ℕ) → SpellsOperation held op
    → HasRead came journal held next → HasRead (came ++ 10 ∷ []) (arrived journal op) [] (next + 1)
read_line came journal held op next spells read = record {
  pieces = read.pieces ++ held ∷ [];
  ops = read.ops ++ op ∷ [];
  whole = ap (λ l. l ++ 10 ∷ []) read.whole ∙ append_assoc header_line (whole_lines read.pieces ++ held) (10 ∷ [])
      ∙ ap (λ l. header_line ++ l) (append_assoc (whole_lines read.pieces) held (10 ∷ []) ∙ sym (whole-push read.pieces held) ∙ sym (append-nil (whole_lines (read.pieces ++ held ∷ []))));
  says = say-append read.pieces (held ∷ []) read.ops (op ∷ []) read.says
      (record { plain = read.torn.plain; short = read.torn.short; spells = spells }, tt);
  torn = record { plain = has_none [] tt; short = omega arith };
  taken = ap (λ l. arrived l op) read.taken ∙ sym (all_arrived-push [] read.ops op);
  count = omega (arith, read.count, length-append read.pieces (held ∷ []));
}

-- a line that is too long
pub too_long : (came journal held piece : _) (next : ℕ) → HasNoLf piece → line_limit < length (held ++ piece)
    → HasRead came journal held next
    → (later : List ℕ) → IsJournalRefusal ((came ++ piece) ++ later) (BadLine next cause.TooLong)
too_long came journal held piece next plain long read later = record {
  pieces = read.pieces;
  ops = read.ops;
  after = (held ++ piece) ++ later;
  whole = ap (λ l. (l ++ piece) ++ later) read.whole ∙ ap (λ l. l ++ later) (append_assoc header_line (whole_lines read.pieces ++ held) piece ∙ ap (λ l. header_line ++ l) (append_assoc (whole_lines read.pieces) held piece))
      ∙ append_assoc header_line (whole_lines read.pieces ++ (held ++ piece)) later
      ∙ ap (λ l. header_line ++ l) (append_assoc (whole_lines read.pieces) (held ++ piece) later);
  says = read.says;
  count = read.count;
  bad = (held ++ piece, later, refl, All-append (λ byte. byte ≢ 10) held piece read.torn.plain plain, long);
}

-- a line that isn't read
whole_bad : (came journal held : _) (next : ℕ) → (read : HasRead came journal held next) → (later : List ℕ)
    → (came ++ 10 ∷ []) ++ later ≡ header_line ++ (whole_lines read.pieces ++ (as_line held ++ later))
whole_bad came journal held next read later =
    ap (λ l. (l ++ 10 ∷ []) ++ later) read.whole ∙ ap (λ l. l ++ later) (append_assoc header_line (whole_lines read.pieces ++ held) (10 ∷ []) ∙ ap (λ l. header_line ++ l) (append_assoc (whole_lines read.pieces) held (10 ∷ [])))
    ∙ append_assoc header_line (whole_lines read.pieces ++ as_line held) later
    ∙ ap (λ l. header_line ++ l) (append_assoc (whole_lines read.pieces) (as_line held) later)

bad_line : (came journal held : _) (next : ℕ) (why : OpTextFault) → (later : List ℕ) → HasRead came journal held next
    → IsNoLine (as_line held ++ later) (cause.Text why)
    → IsJournalRefusal ((came ++ 10 ∷ []) ++ later) (BadLine next (cause.Text why))
bad_line came journal held next why later read bad = record {
  pieces = read.pieces;
  ops = read.ops;
  after = as_line held ++ later;
  whole = whole_bad came journal held next read later;
  says = read.says;
  count = read.count;
  bad = bad;
}

pub not_read : (came journal held : _) (next : ℕ) (why : OpTextFault) → IsRefusalOf form.Operation held why
    → ((op : Operation) → SpellsOperation held op → why ≡ text.NoMemory)
    → HasRead came journal held next → (later : List ℕ)
    → IsJournalRefusal ((came ++ 10 ∷ []) ++ later) (line_fault_of next why)
not_read came journal held next text.NotJson refused only read later =
    bad_line came journal held next text.NotJson later read
    (held, later, refl, read.torn.plain, refused, λ op spells. cc (only op spells))
not_read came journal held next (text.BadShape key) refused only read later = bad_line came journal held next
    (text.BadShape key) later read (held, later, refl, read.torn.plain, refused, λ op spells. cc (only op spells))
not_read came journal held next (text.BadBody fault) refused only read later = bad_line came journal held next
    (text.BadBody fault) later read (held, later, refl, read.torn.plain, refused, λ op spells. cc (only op spells))
not_read came journal held next text.NoMemory refused only read later = tt

-- there are more lines than can be counted
pub too_many : (came journal held : _) (next : ℕ) → 2 ^ 64 ≤ next + 1 → HasRead came journal held next
    → (later : List ℕ) → most_text < length ((came ++ 10 ∷ []) ++ later)
too_many came journal held next many read later =
    omega (
      arith,
      many,
      read.count,
      whole-length read.pieces,
      ap length read.whole,
      length-append header_line (whole_lines read.pieces ++ held),
      length-append (whole_lines read.pieces) held,
      length-append (came ++ 10 ∷ []) later,
      length-append came (10 ∷ []),
    )

-- the whole was read
pub read_found : (came journal held : _) (next len torn : ℕ) → HasRead came journal held next → torn ≡ length held
    → length came ≡ len + torn → IsFoundText came (Lines journal len torn)
read_found came journal held next len torn read few e = (read.ops, held, record { pieces = read.pieces; whole = read.whole; says = read.says; torn = read.torn }, read.taken, few, e)

-- ---- at what calls answer

pub read_line_at : (came journal held bytes journal' held' : _) (op : Operation) (next next' : ℕ) → bytes ≡ held
    → SpellsOperation bytes op
    → journal' ≡ arrived journal op → held' ≡ [] → next' ≡ next + 1 → HasRead came journal held next
    → HasRead (came ++ 10 ∷ []) journal' held' next'
read_line_at came journal held bytes journal' held' op next next' same spells taken none count read =
    rw (taken, none, count) (read_line came journal held op next (subst (λ b. SpellsOperation b op) same spells) read)

pub not_read_at : (came journal held bytes : _) (next : ℕ) (why : OpTextFault) → bytes ≡ held
    → IsRefusalOf form.Operation bytes why
    → ((op : Operation) → SpellsOperation bytes op → why ≡ text.NoMemory)
    → HasRead came journal held next → (later : List ℕ)
    → IsJournalRefusal ((came ++ 10 ∷ []) ++ later) (line_fault_of next why)
not_read_at came journal held bytes next why same refused only =
    not_read came journal held next why (subst (λ b. IsRefusalOf form.Operation b why) same refused)
    (λ op spells. only op (subst (λ b. SpellsOperation b op) (sym same) spells))

pub line_joined : (came piece : List ℕ) → (came ++ piece) ++ 10 ∷ [] ≡ came ++ as_line piece
line_joined came piece = append_assoc came piece (10 ∷ [])

pub line_joined_later : (came piece later : List ℕ) → (came ++ piece) ++ (10 ∷ later) ≡ (came ++ as_line piece) ++ later
line_joined_later came piece later =
    sym (append_assoc (came ++ piece) (10 ∷ []) later) ∙ ap (λ l. l ++ later) (line_joined came piece)

-- ---- a block, line by line

-- ---- what a feed gave

pub refused_all : (left new : Option (List ℕ)) (part came : List ℕ) (fault : JournalFault) → Consumes left new part
    → ((later : List ℕ) → IsJournalRefusal ((came ++ part) ++ later) fault)
    → IfSome left (λ more. IsJournalRefusal (came ++ more) fault)
refused_all None new part came fault took fails = tt
refused_all (Some x) None part came fault took fails = absurd took
refused_all (Some x) (Some y) part came fault took fails =
    subst (λ l. IsJournalRefusal l fault) (append_assoc came part y ∙ ap (λ l. came ++ l) (sym took)) (fails y)

-- what was consumed before
pub after_front : (left new : Option (List ℕ)) (part : List ℕ) (P Q : List ℕ → Type 0) → Consumes left new part
    → ((later : List ℕ) → Q later → P (part ++ later)) → IfSome new Q → IfSome left P
after_front None new part P Q took f h = tt
after_front (Some x) None part P Q took f h = absurd took
after_front (Some x) (Some y) part P Q took f h = subst P (sym took) (f y h)

-- whatever comes after it
pub with_front : (left new : Option (List ℕ)) (part : List ℕ) (P : List ℕ → Type 0) → Consumes left new part
    → ((later : List ℕ) → P (part ++ later)) → IfSome left P
with_front None new part P took f = tt
with_front (Some x) None part P took f = absurd took
with_front (Some x) (Some y) part P took f = subst P (sym took) (f y)

pub header_length : length header_line ≡ 13
unfolding header_line
header_length = refl

pub held_within : (came journal held : _) (next : ℕ) → HasRead came journal held next → length held ≤ length came
held_within came journal held next read =
    omega (arith, ap length read.whole, length-append header_line (whole_lines read.pieces ++ held), length-append (whole_lines read.pieces) held)

-- ---- what is where the first line should be

pub front_is_fresh : (head front header : List ℕ) → header ≡ header_line → front ≡ take (length head) header
    → length head ≤ 13 → (head ≡ header → ⊥) → head ≡ front → IsFresh head
front_is_fresh head front header is cut few never same =
    let e : head ≡ take (length head) header_line = same ∙ cut ∙ ap (take (length head)) is in
    let whole : length header ≡ 13 = ap length is ∙ header_length in
    let ne : length head ≡ 13 → ⊥ = λ n. never (same ∙ cut ∙ take_all (length head) header (omega (arith, whole, n))) in (
      (drop (length head) header_line, sym (ap (λ l. l ++ drop (length head) header_line) e ∙ take-append-drop (length head) header_line)),
      omega (arith, few, ne, header_length),
    )

pub other_is_other : (head front header : List ℕ) → header ≡ header_line → front ≡ take (length head) header
    → (head ≡ front → ⊥) → IsPrefix head header_line → ⊥
other_is_other head front header is cut never p =
    never (sym (cut ∙ ap (take (length head)) (is ∙ p.1) ∙ take_at head p.0 _ refl))

pub bad_header : (left new : Option (List ℕ)) (head : List ℕ) → Consumes left new head → length head ≤ 13
    → (IsPrefix head header_line → ⊥) → IfSome left IsBadHeader
bad_header None new head took few never = tt
bad_header (Some x) None head took few never = absurd took
bad_header (Some x) (Some y) head took few never = record {
  other = λ p.
      let e : head ≡ take (length head) header_line =
      sym (take_at head y _ refl) ∙ ap (take (length head)) (sym took ∙ p.1)
      ∙ take-append-le (length head) header_line p.0 (omega (arith, few, header_length)) in
      never (drop (length head) header_line, sym (ap (λ l. l ++ drop (length head) header_line) e ∙ take-append-drop (length head) header_line));
  written = λ fresh. never (y ++ fresh.0.0, fresh.0.1 ∙ ap (λ l. l ++ fresh.0.0) took ∙ append_assoc head y fresh.0.0);
}
