-- How lines of operations are put together.
use Rattle.std.proofs.Common.{◌≤◌, ℕ, List, [], ◌∷◌, ◌++◌, sym, ap, ◌∙◌, append-nil, arith, length, length-append}
use Rattle.std.specs.Prelude.{flat_map}
use Rattle.std.proofs.lemmas.Grind.{flat_map-append}
use Rattle.byte_ends.specs.Lines.{as_line}
use Rattle.review_ops.specs.Operation.{Operation}
use Rattle.line_batches.specs.Batches.{ArePlainLines, IsBatch, IsPlainLine}

plain-append : (xs ys : List (List ℕ)) (ops more : List Operation) → ArePlainLines xs ops → ArePlainLines ys more
    → ArePlainLines (xs ++ ys) (ops ++ more)
plain-append [] ys [] more none others = others
plain-append [] ys (op ∷ ops) more none others = absurd none
plain-append (x ∷ xs) ys [] more none others = absurd none
plain-append (x ∷ xs) ys (op ∷ ops) more all others = (all.0, plain-append xs ys ops more all.1 others)

-- one batch after the other is a batch
pub batch-append : (front back : List ℕ) (ops more : List Operation) → IsBatch front ops → IsBatch back more
    → IsBatch (front ++ back) (ops ++ more)
batch-append front back ops more first second = (
  first.0 ++ second.0,
  ap (λ l. l ++ back) first.1 ∙ ap (λ l. flat_map as_line first.0 ++ l) second.1
      ∙ sym (flat_map-append as_line first.0 second.0),
  plain-append first.0 second.0 ops more first.2 second.2,
)

-- a line is a batch
pub one_line : (piece : List ℕ) (op : Operation) → IsPlainLine piece op → IsBatch (as_line piece) (op ∷ [])
one_line piece op is = (piece ∷ [], sym (append-nil (as_line piece)), (is, tt))

few_plain : (pieces : List (List ℕ)) (ops : List Operation) → ArePlainLines pieces ops
    → length ops ≤ length (flat_map as_line pieces)
few_plain [] [] are = omega arith
few_plain [] (op ∷ ops) are = absurd are
few_plain (piece ∷ pieces) [] are = absurd are
few_plain (piece ∷ pieces) (op ∷ ops) are =
    omega (arith, few_plain pieces ops are.1, length-append (as_line piece) (flat_map as_line pieces), length-append piece (10 ∷ []))

-- a batch has no more operations than bytes
pub few_lines : (bytes : List ℕ) (ops : List Operation) → IsBatch bytes ops → length ops ≤ length bytes
few_lines bytes ops batch = omega (arith, few_plain batch.0 ops batch.2, ap length batch.1)
