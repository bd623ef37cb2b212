-- How one answer is read, line by line.
use Rattle.std.proofs.Common.{◌≡◌, ◌≢◌, ◌⊎◌, ◌<◌, ◌≤◌, ℕ, Bool, List, [], ◌∷◌, ◌++◌, Option, Ok, Err, length, drop}
use Rattle.std.proofs.Common.{refl, sym, ap, ◌∙◌, subst, inl, inr, append_assoc, arith, length-append}
use Rattle.std.specs.Prelude.{codes, map}
use Rattle.std.specs.Io.KnownBytes.{Appends, Consumes, IsAtEnd}
use Rattle.std.proofs.KnownBytes.{Consumes-trans}
use Rattle.byte_ends.specs.Lines.{as_line, without_cr}
use Rattle.op_text.specs.Spelling.{SpellsOperation}
use Rattle.op_text.specs.declared.fault.OpTextFault.{OpTextFault}
use Rattle.op_text.specs.declared.fault.OpTextFault.TheVariants as text
use Rattle.gossip_line.proofs.Talking.{All-push, flat_map-push}
use Rattle.gossip_line.specs.Answers.{AnswerIsCutShort}
use Rattle.gossip_line.specs.Pull.{AreOperations, Awaits, Breaks, CountsEnds, CountsReading, Hails}
use Rattle.gossip_line.specs.Pull.{BreaksPull, IsUngreeted, IsNoAnswer, IsUnspelled, IsWhole}
use Rattle.gossip_line.specs.Pull.{OperationLine, SaysOperation}
use Rattle.gossip_line.specs.Pull.{bytes_in, ops_in, rest_word, unread_fault}
use Rattle.gossip_line.specs.Session.{IsPiece}
use Rattle.gossip_line.specs.Texts.{hello}
use Rattle.gossip_line.specs.declared.fault.LineFault.{LineFault}
use Rattle.gossip_line.specs.declared.fault.LineFault.TheVariants as line
use Rattle.line_reader.specs.Lines.{BeginsWithLine, IsTooLong, IsUnfinished, Reading}
use Rattle.std.proofs.lemmas.List.{length-map}
use Rattle.review_ops.specs.Operation.{Operation}

-- ---- bytes

-- what was read so far goes on with what comes
pub read_further : (first came done held next text later : List ℕ) → first ++ came ≡ done ++ held
    → held ++ next ≡ text ++ later → first ++ (came ++ next) ≡ (done ++ text) ++ later
read_further first came done held next text later before now =
    sym (append_assoc first came next) ∙ ap (λ l. l ++ next) before ∙ append_assoc done held next
    ∙ ap (λ l. done ++ l) now ∙ sym (append_assoc done text later)

pub goes_further : (first came done held next : List ℕ) → first ++ came ≡ done ++ held
    → first ++ (came ++ next) ≡ done ++ (held ++ next)
goes_further first came done held next before =
    sym (append_assoc first came next) ∙ ap (λ l. l ++ next) before ∙ append_assoc done held next

map-push : {S T : Type 0} (f : S → T) (xs : List S) (x : S) → map f (xs ++ x ∷ []) ≡ map f xs ++ f x ∷ []
map-push f [] x = refl
map-push f (y ∷ xs) x = ap (λ l. f y ∷ l) (map-push f xs x)

-- ---- lines of an answer

module _ (lines : List OperationLine) (line : OperationLine) where
  pub bytes_with : bytes_in (lines ++ line ∷ []) ≡ bytes_in lines ++ as_line line.piece
  bytes_with = flat_map-push (λ (l : OperationLine). as_line l.piece) lines line

  pub ops_with : ops_in (lines ++ line ∷ []) ≡ ops_in lines ++ line.op ∷ []
  ops_with = map-push (λ (l : OperationLine). l.op) lines line

  pub operations_with : (limit : ℕ) → AreOperations limit lines → IsPiece limit line.piece
      → SaysOperation (without_cr line.piece) line.op → AreOperations limit (lines ++ line ∷ [])
  operations_with limit all piece says =
      All-push (λ l. IsPiece limit l.piece × SaysOperation (without_cr l.piece) l.op) lines line all (piece, says)

-- ---- faults

module _ (limit count : ℕ) (rest : List ℕ) (left : Option (List ℕ)) (unread reads unwritten writes : ℕ) where
  -- what the count of failed reads shows where reading fails
  pub counts_broken : (fault : LineFault) → Breaks limit count rest left fault
      → CountsReading {T = Unit {0}} unread reads (Err fault) → writes ≡ unwritten
      → CountsEnds unread reads unwritten writes fault
  counts_broken line.BadVersion is h same = absurd is
  counts_broken line.WriteFault is h same = absurd is
  counts_broken line.Closed is h same = absurd is
  counts_broken line.NotListed is h same = absurd is
  counts_broken line.FarAhead is h same = absurd is
  counts_broken fault is h same = (h, same)

module _ (limit : ℕ) (old new : Reading) (came : List ℕ) (left : Option (List ℕ)) where
  -- a line that doesn't come breaks an answer
  pub awaits_breaks : (count : ℕ) (fault : LineFault) → old.limit ≡ limit → Awaits old came (Err fault) new
      → (fault ≡ line.BadAnswer → IsAtEnd left) → Breaks limit count (old.held ++ came) left fault
  awaits_breaks count line.LongLine is h at_end = subst (λ l. IsTooLong l (old.held ++ came)) is h
  awaits_breaks count line.BadAnswer is h at_end =
      inl (subst (λ l. IsUnfinished l (old.held ++ came)) is h, at_end refl)
  awaits_breaks count fault is h at_end = h

  -- and a greeting
  pub awaits_ungreeted : (taken later : Option (List ℕ)) (unread reads unwritten writes : ℕ) (fault : LineFault)
      → old.limit ≡ limit → Awaits old came (Err fault) new → (fault ≡ line.BadAnswer → IsAtEnd left)
      → CountsReading {T = Unit {0}} unread reads (Err fault) → writes ≡ unwritten → Appends taken later (as_line hello)
      → CountsEnds unread reads unwritten writes fault × IsUngreeted limit (old.held ++ came) left fault
      × Hails taken later fault
  awaits_ungreeted taken later unread reads unwritten writes line.LongLine is h at_end counted same hails =
      ((counted, same), subst (λ l. IsTooLong l (old.held ++ came)) is h, hails)
  awaits_ungreeted taken later unread reads unwritten writes line.BadAnswer is h at_end counted same hails =
      ((counted, same), inl (subst (λ l. IsUnfinished l (old.held ++ came)) is h, at_end refl), hails)
  awaits_ungreeted taken later unread reads unwritten writes line.ReadFault is h at_end counted same hails =
      ((counted, same), tt, hails)
  awaits_ungreeted taken later unread reads unwritten writes line.NoMemory is h at_end counted same hails =
      ((counted, same), tt, inr hails)
  awaits_ungreeted taken later unread reads unwritten writes fault is h at_end counted same hails = absurd h

pub unsent_ungreeted : (limit : ℕ) (bytes : List ℕ) (left taken later : Option (List ℕ)) (unread unwritten writes : ℕ)
    (fault : LineFault) → fault ≡ line.WriteFault
    → AnswerIsCutShort (as_line hello) taken later unwritten writes
    → CountsEnds unread unread unwritten writes fault × IsUngreeted limit bytes left fault × Hails taken later fault
unsent_ungreeted limit bytes left taken later unread unwritten writes fault is cut =
    subst (λ f. CountsEnds unread unread unwritten writes f × IsUngreeted limit bytes left f × Hails taken later f)
    (sym is)
    ((refl, cut.one_failed), tt, (cut.count, cut.proper, cut.prefix))

-- a text that isn't read spells nothing, unless memory was refused
pub unread_unspelled : (spelling : List ℕ) (fault : OpTextFault)
    → ((op : Operation) → SpellsOperation spelling op → fault ≡ text.NoMemory)
    → IsUnspelled spelling (unread_fault fault)
unread_unspelled spelling text.NoMemory only = tt
unread_unspelled spelling fault only = λ op is. let e = only op is in cc

pub unspelled_unsaid : (said spelling : List ℕ) (fault : LineFault) → said ≡ codes "op " ++ spelling
    → IsUnspelled spelling fault → IsNoAnswer said fault
unspelled_unsaid said spelling line.BadAnswer is h =
    λ op says. h op (subst (λ t. SpellsOperation t op) (ap (drop 3) (sym says.1 ∙ is)) says.2)
unspelled_unsaid said spelling fault is h = h

-- ---- an answer

-- an answer of which some lines of operations came, and what is held of what was read past them
pub record IsBegun (limit : ℕ) (first held : List ℕ) (before now : Option (List ℕ)) (ops : List Operation)
    : Type 0 where
  pub lines : List OperationLine
  pub came : List ℕ
  pub read : Consumes before now came
  pub operations : AreOperations limit lines
  pub say : ops ≡ ops_in lines
  pub few : length ops ≤ 256
  pub whole : first ++ came ≡ bytes_in lines ++ held

module _ {limit : ℕ} {first held : List ℕ} {before mid : Option (List ℕ)} {ops : List Operation} where
  -- each line said one operation
  pub as_many : (so_far : IsBegun limit first held before mid ops) → length ops ≡ length so_far.lines
  as_many so_far = ap length so_far.say ∙ length-map so_far.lines (λ (l : OperationLine). l.op)

  -- what comes next breaks it
  pub begun_breaks : (now : Option (List ℕ)) (next : List ℕ) (fault : LineFault)
      → (so_far : IsBegun limit first held before mid ops) → Consumes mid now next
      → Breaks limit (length so_far.lines) (held ++ next) now fault
      → (came : List ℕ) × Consumes before now came × BreaksPull limit (first ++ came) now fault
  begun_breaks now next fault so_far read breaks = (
    so_far.came ++ next,
    Consumes-trans before mid now so_far.came next so_far.read read,
    record {
      lines = so_far.lines;
      rest = held ++ next;
      operations = so_far.operations;
      whole = goes_further first so_far.came (bytes_in so_far.lines) held next so_far.whole;
      breaks = breaks;
    },
  )

-- a line more came
module _ {limit : ℕ} {first : List ℕ} {before mid : Option (List ℕ)} {ops : List Operation} (old new : Reading)
    (now : Option (List ℕ)) (so_far : IsBegun limit first old.held before mid ops) (limit_is : old.limit ≡ limit)
    (awaits : (came : List ℕ) × Consumes mid now came × Awaits old came (Ok tt) new) where
  -- the line as it came, without its LF
  abbrev piece : List ℕ
  piece = awaits.2.0

  -- what was held begins with it
  begins : BeginsWithLine limit (old.held ++ awaits.0) piece new.held
  begins = subst (λ l. BeginsWithLine l (old.held ++ awaits.0) piece new.held) limit_is awaits.2.1

  -- it isn't too long
  is_piece : IsPiece limit piece
  is_piece = record { plain = begins.plain; short = begins.short }

  -- what was read in all
  whole_now : first ++ (so_far.came ++ awaits.0) ≡ (bytes_in so_far.lines ++ as_line piece) ++ new.held
  whole_now = read_further first so_far.came (bytes_in so_far.lines) old.held awaits.0 (as_line piece) new.held
      so_far.whole begins.whole

  -- it says whether others are left
  pub all_read : (more : Bool) → new.line ≡ rest_word more
      → (came : List ℕ) × Consumes before now came
      × ((lines : List OperationLine) × (last : List ℕ) × IsWhole limit lines last more × (ops ≡ ops_in lines)
      × (first ++ came ≡ (bytes_in lines ++ as_line last) ++ new.held))
  all_read more says = (
    so_far.came ++ awaits.0,
    Consumes-trans before mid now so_far.came awaits.0 so_far.read awaits.1,
    (
      so_far.lines,
      piece,
      record {
        operations = so_far.operations;
        few = omega (arith, so_far.few, as_many so_far);
        ends = is_piece;
        says = sym awaits.2.2 ∙ says;
      },
      so_far.say,
      whole_now,
    ),
  )

  -- it says an operation
  pub one_said : (op : Operation) (later : List Operation) → SaysOperation new.line op → later ≡ ops ++ op ∷ []
      → length ops < 256 → IsBegun limit first new.held before now later
  one_said op later says add few =
      let line : OperationLine = record { piece = piece; op = op } in record {
        lines = so_far.lines ++ line ∷ [];
        came = so_far.came ++ awaits.0;
        read = Consumes-trans before mid now so_far.came awaits.0 so_far.read awaits.1;
        operations = operations_with so_far.lines line limit so_far.operations is_piece
            (subst (λ l. SaysOperation l op) awaits.2.2 says);
        say = add ∙ ap (λ l. l ++ op ∷ []) so_far.say ∙ sym (ops_with so_far.lines line);
        few = omega (arith, few, ap length add, length-append ops (op ∷ []));
        whole = whole_now ∙ ap (λ l. l ++ new.held) (sym (bytes_with so_far.lines line));
      }

  -- it is none that an answer has here
  pub not_in_answer : ((more : Bool) → new.line ≢ rest_word more)
      → (length ops ≡ 256) ⊎ ((op : Operation) → ¬ SaysOperation new.line op)
      → Breaks limit (length so_far.lines) (old.held ++ awaits.0) now line.BadAnswer
  not_in_answer rest operation = inr (
    piece,
    new.held,
    begins,
    record {
      rest = λ more e. rest more (awaits.2.2 ∙ e);
      operation = subst (λ l. (length so_far.lines ≡ 256) ⊎ ((op : Operation) → ¬ SaysOperation l op)) awaits.2.2
          (subst (λ n. (n ≡ 256) ⊎ ((op : Operation) → ¬ SaysOperation new.line op)) (as_many so_far) operation);
    },
  )

  -- no operation is taken from it
  pub not_said : (fault : LineFault) → ((more : Bool) → new.line ≢ rest_word more) → IsNoAnswer new.line fault
      → Breaks limit (length so_far.lines) (old.held ++ awaits.0) now fault
  not_said line.BadAnswer rest none = not_in_answer rest (inr none)
  not_said line.NoMemory rest none = tt
  not_said fault rest none = absurd none
