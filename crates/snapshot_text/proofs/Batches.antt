-- How whole lines are taken whose operations were read at once.
use Rattle.std.proofs.Common.{◌≡◌, ℕ, ◌+◌, List, [], ◌∷◌, ◌++◌, length, refl, sym, ap, subst, ◌∙◌, arith}
use Rattle.std.proofs.Common.{append_assoc, append-nil, length-append}
use Rattle.std.specs.Prelude.{flat_map, codes}
use Rattle.byte_ends.specs.Lines.{as_line, lines_of, without_cr}
use Rattle.line_batches.specs.Batches.{ArePlainLines, IsBatch, IsPlainLine}
use Rattle.review_ops.specs.Operation.{Operation}
use Rattle.replica_core.specs.Journal.{all_arrived}
use Rattle.replica_core.specs.JournalLaws.{all_arrived-append}
use Rattle.snapshot_text.specs.Progress.{HasCut, HasTaken, Stands}
use Rattle.snapshot_text.specs.Snapshot.{AreOperationLines, BeginsWith, IsNoEndLine}
use Rattle.snapshot_text.specs.declared.blocks.Cutter.{Cutter}
use Rattle.snapshot_text.specs.declared.progress.Stage.TheVariants.{Operations}
use Rattle.snapshot_text.proofs.Cutting.{first_line}

-- ---- what a line is that begins and ends with a brace

no_cr : (piece : List ℕ) (op : Operation) → IsPlainLine piece op → without_cr piece ≡ piece
no_cr piece op is = rw is.closed refl

same_heads : (x y : ℕ) (xs ys : List ℕ) → x ∷ xs ≡ y ∷ ys → x ≡ y
same_heads x y xs ys e = cc

no_end : (piece : List ℕ) (op : Operation) → IsPlainLine piece op → IsNoEndLine piece
no_end piece op is count end =
    absurd (omega (arith, same_heads 123 101 is.opened.0 (codes "nd " ++ end.digits) (sym is.opened.1 ∙ end.form)))

-- ---- lines of operations

pub are_lines : (pieces : List (List ℕ)) (ops : List Operation) → ArePlainLines pieces ops → AreOperationLines pieces ops
are_lines [] [] are = tt
are_lines [] (op ∷ ops) are = absurd are
are_lines (piece ∷ pieces) [] are = absurd are
are_lines (piece ∷ pieces) (op ∷ ops) are =
    (record { other = no_end piece op are.0; spells = are.0.spells }, are_lines pieces ops are.1)

lines_of_batch : (pieces : List (List ℕ)) (ops : List Operation) (rest : List ℕ) → ArePlainLines pieces ops
    → lines_of (flat_map as_line pieces ++ rest) ≡ pieces ++ lines_of rest
lines_of_batch [] [] rest are = refl
lines_of_batch [] (op ∷ ops) rest are = absurd are
lines_of_batch (piece ∷ pieces) [] rest are = absurd are
lines_of_batch (piece ∷ pieces) (op ∷ ops) rest are =
    ap lines_of (append_assoc (as_line piece) (flat_map as_line pieces) rest)
    ∙ first_line piece (flat_map as_line pieces ++ rest) are.0.plain
    ∙ ap (λ l. l ∷ lines_of (flat_map as_line pieces ++ rest)) (no_cr piece op are.0)
    ∙ ap (λ l. piece ∷ l) (lines_of_batch pieces ops rest are.1)

lines-append : (lines pieces : List (List ℕ)) (ops more : List Operation) → AreOperationLines lines ops
    → AreOperationLines pieces more → AreOperationLines (lines ++ pieces) (ops ++ more)
lines-append [] pieces [] more none are = are
lines-append [] pieces (op ∷ ops) more none are = absurd none
lines-append (line ∷ lines) pieces [] more none are = absurd none
lines-append (line ∷ lines) pieces (op ∷ ops) more all are = (all.0, lines-append lines pieces ops more all.1 are)

begins_on : (lines pieces : List (List ℕ)) (ops more : List Operation) → BeginsWith lines ops [] → ArePlainLines pieces more
    → BeginsWith (lines ++ pieces) (ops ++ more) []
begins_on lines pieces ops more begins are = record {
  first = begins.first;
  front = begins.front ++ pieces;
  form = ap (λ l. l ++ pieces) (begins.form ∙ ap (λ l. begins.first ∷ l) (append-nil begins.front))
      ∙ ap (λ l. begins.first ∷ l) (sym (append-nil (begins.front ++ pieces)));
  header = begins.header;
  operations = lines-append begins.front pieces ops more begins.operations (are_lines pieces more are);
}

-- ---- what was taken, and how far the bytes are cut

stands_on : (base : List Operation) (lines pieces : List (List ℕ)) (journal more : List Operation) (count : ℕ)
    → Stands base lines Operations journal count → ArePlainLines pieces more
    → Stands base (lines ++ pieces) Operations (all_arrived journal more) (count + length more)
stands_on base lines pieces journal more count stands are = (
  stands.0 ++ more,
  begins_on lines pieces stands.0 more stands.1 are,
  ap (λ l. all_arrived l more) stands.2 ∙ sym (all_arrived-append base stands.0 more),
  omega (arith, stands.3, length-append stands.0 more),
)

pub cut_batch : (base : List Operation) (came bytes : List ℕ) (old new : Cutter) (more : List Operation)
    → HasCut base came old → IsBatch bytes more → old.held.items ≡ [] → old.progress.stage ≡ Operations
    → new.held ≡ old.held
    → new.progress ≡ record old.progress {
      gathering = all_arrived old.progress.gathering more;
      count = old.progress.count + length more;
    }
    → HasCut base (came ++ bytes) new
cut_batch base came bytes old new more has batch none among held taken = record {
  lines = has.lines ++ batch.0;
  front = has.front ++ bytes;
  form = ap (λ l. l ++ bytes) (has.form ∙ ap (λ l. has.front ++ l) none ∙ append-nil has.front)
      ∙ sym (append-nil (has.front ++ bytes))
      ∙ ap (λ l. (has.front ++ bytes) ++ l) (sym (ap (λ h. h.items) held ∙ none));
  cut = λ rest. ap lines_of (append_assoc has.front bytes rest) ∙ has.cut (bytes ++ rest)
      ∙ ap (λ l. has.lines ++ lines_of (l ++ rest)) batch.1
      ∙ ap (λ l. has.lines ++ l) (lines_of_batch batch.0 more rest batch.2)
      ∙ sym (append_assoc has.lines batch.0 (lines_of rest));
  plain = rw held has.plain;
  taken = subst (HasTaken base (has.lines ++ batch.0)) (sym taken)
      (subst (λ s. Stands base (has.lines ++ batch.0) s (all_arrived old.progress.gathering more) (old.progress.count + length more)) (sym among)
      (stands_on base has.lines batch.0 old.progress.gathering more old.progress.count
      (subst (λ s. Stands base has.lines s old.progress.gathering old.progress.count) among has.taken) batch.2));
}
