-- Batches of whole lines of operations. The form is the project's own.
use Rattle.std.specs.Prelude.{◌≡◌, ◌≤◌, ◌-◌, ℕ, List, [], ◌∷◌, flat_map, length, slice_index}
use Rattle.byte_ends.specs.Lines.{as_line}
use Rattle.line_reader.specs.Lines.{HasNoLf, line_limit}
use Rattle.op_text.specs.Spelling.{SpellsOperation}
use Rattle.review_ops.specs.Operation.{Operation}

-- these bytes, followed by an LF, are a line that spells the operation from its first brace to its last
pub record IsPlainLine (piece : List ℕ) (op : Operation) : Type 0 where
  pub plain : HasNoLf piece
  pub short : length piece ≤ line_limit
  pub opened : (rest : List ℕ) × (piece ≡ 123 ∷ rest)
  pub closed : slice_index piece (length piece - 1) ≡ 125
  pub spells : SpellsOperation piece op

-- the lines are those of the operations, in this order
abbrev pub ArePlainLines : List (List ℕ) → List Operation → Type 0
ArePlainLines [] [] = Unit {0}
ArePlainLines [] (op ∷ ops) = ⊥
ArePlainLines (piece ∷ pieces) [] = ⊥
ArePlainLines (piece ∷ pieces) (op ∷ ops) = IsPlainLine piece op × ArePlainLines pieces ops

-- the bytes are whole lines, those of the operations
abbrev pub IsBatch : List ℕ → List Operation → Type 0
IsBatch bytes ops = (pieces : List (List ℕ)) × (bytes ≡ flat_map as_line pieces) × ArePlainLines pieces ops
