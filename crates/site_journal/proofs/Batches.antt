-- How whole lines are read at once.
use Rattle.std.proofs.Common.{◌≡◌, ℕ, ◌+◌, List, [], ◌∷◌, ◌++◌, length, refl, sym, ap, ◌∙◌, arith, subst}
use Rattle.std.proofs.Common.{append_assoc, append-nil, length-append}
use Rattle.line_batches.specs.Batches.{ArePlainLines, IsBatch}
use Rattle.review_ops.specs.Operation.{Operation}
use Rattle.replica_core.specs.Journal.{all_arrived}
use Rattle.replica_core.specs.JournalLaws.{all_arrived-append}
use Rattle.site_journal.specs.Reading.{HasRead}
use Rattle.site_journal.specs.declared.reading.Reading.{Reading}
use Rattle.site_journal.specs.Text.{SayOperations, header_line, whole_lines}
use Rattle.site_journal.proofs.Lines.{say-append, whole-append}

plain_say : (pieces : List (List ℕ)) (ops : List Operation) → ArePlainLines pieces ops → SayOperations pieces ops
plain_say [] [] are = tt
plain_say [] (op ∷ ops) are = absurd are
plain_say (piece ∷ pieces) [] are = absurd are
plain_say (piece ∷ pieces) (op ∷ ops) are = (
  record { plain = are.0.plain; short = are.0.short; spells = are.0.spells },
  plain_say pieces ops are.1,
)

plain_length : (pieces : List (List ℕ)) (ops : List Operation) → ArePlainLines pieces ops → length pieces ≡ length ops
plain_length [] [] are = refl
plain_length [] (op ∷ ops) are = absurd are
plain_length (piece ∷ pieces) [] are = absurd are
plain_length (piece ∷ pieces) (op ∷ ops) are = cc (plain_length pieces ops are.1)

pub read_batch : (came bytes : List ℕ) (journal : List Operation) (held : List ℕ) (more : List Operation) (next : ℕ)
    → held ≡ [] → IsBatch bytes more → HasRead came journal held next
    → HasRead (came ++ bytes) (all_arrived journal more) held (next + length more)
read_batch came bytes journal held more next none batch read =
    let before = whole_lines read.pieces in
    let without : before ++ held ≡ before = ap (λ h. before ++ h) none ∙ append-nil before in
    let all : (before ++ held) ++ bytes ≡ whole_lines (read.pieces ++ batch.0) ++ held =
    ap (λ l. l ++ bytes) without ∙ ap (λ l. before ++ l) batch.1 ∙ sym (whole-append read.pieces batch.0)
    ∙ sym (append-nil (whole_lines (read.pieces ++ batch.0)))
    ∙ ap (λ h. whole_lines (read.pieces ++ batch.0) ++ h) (sym none) in record {
      pieces = read.pieces ++ batch.0;
      ops = read.ops ++ more;
      whole = ap (λ l. l ++ bytes) read.whole ∙ append_assoc header_line (before ++ held) bytes
          ∙ ap (λ l. header_line ++ l) all;
      says = say-append read.pieces batch.0 read.ops more read.says (plain_say batch.0 more batch.2);
      torn = read.torn;
      taken = ap (λ l. all_arrived l more) read.taken ∙ sym (all_arrived-append [] read.ops more);
      count = omega (arith, read.count, length-append read.pieces batch.0, plain_length batch.0 more batch.2);
    }

pub batch_taken : (came bytes : List ℕ) (old new : Reading) (more : List Operation) (next : ℕ) → IsBatch bytes more
    → old.held.items ≡ [] → next ≡ old.next + length more
    → new ≡ record old { gathering = all_arrived old.gathering more; next = next }
    → HasRead came old.gathering old.held.items old.next
    → HasRead (came ++ bytes) new.gathering new.held.items new.next
batch_taken came bytes old new more next batch none counts taken read =
    subst (λ r. HasRead (came ++ bytes) r.gathering r.held.items r.next) (sym taken)
    (subst (HasRead (came ++ bytes) (all_arrived old.gathering more) old.held.items) (sym counts)
    (read_batch came bytes old.gathering old.held.items more old.next none batch read))
