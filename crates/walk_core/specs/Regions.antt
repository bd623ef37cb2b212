-- Regions of the kept nodes of a graph: no edge leads from one region into another. A region is named by one of its
-- nodes, which is its label.
use Rattle.std.specs.Prelude.{◌≡◌, ◌≢◌, ◌⊎◌, ◌<◌, ◌==◌, ℕ, Bool, false, List, Option, None, Some, filter, length}
use Rattle.std.specs.Prelude.{slice_index_or}
use Rattle.walk_core.specs.Digraphs.{HasEdge, IsMarked, ends_of}

abbrev pub label_of : List (Option ℕ) → ℕ → Option ℕ
label_of labels x = slice_index_or labels x None

-- kept nodes that an edge joins have the same label
abbrev pub AreAlike : List (List ℕ) → List Bool → List (Option ℕ) → Type 0
AreAlike graph kept labels =
    (x y : ℕ) → IsMarked kept x → IsMarked kept y → HasEdge graph x y → label_of labels x ≡ label_of labels y

-- each kept node has a label, and no edge leads from one region into another
pub record AreRegions (graph : List (List ℕ)) (kept : List Bool) (labels : List (Option ℕ)) : Type 0 where
  pub size : length labels ≡ length graph
  pub named : (x : ℕ) → IsMarked kept x → label_of labels x ≢ None
  pub within : (x label : ℕ) → label_of labels x ≡ Some label → label < length graph
  pub alike : AreAlike graph kept labels

-- a kept node has no label yet
pub record Waits (kept : List Bool) (labels : List (Option ℕ)) (x : ℕ) : Type 0 where
  pub marked : IsMarked kept x
  pub unlabelled : label_of labels x ≡ None

-- a search from a node has labelled what it is joined with
pub record HasLabelled (graph : List (List ℕ)) (kept : List Bool) (start : ℕ) (before after : List (Option ℕ)) : Type 0 where
  pub size : length after ≡ length before
  pub each : (x : ℕ) → (label_of after x ≡ label_of before x) ⊎ (label_of after x ≡ Some start)
  pub begun : IsMarked kept start → label_of after start ≢ None
  pub alike : AreAlike graph kept before → AreAlike graph kept after

abbrev pub is_label : ℕ → Option ℕ → Bool
is_label label None = false
is_label label (Some other) = other == label

abbrev pub has_label : List (Option ℕ) → ℕ → ℕ → Bool
has_label labels label x = is_label label (label_of labels x)

-- the row of each label has the nodes with this label, in their order
pub record AreGrouped (labels : List (Option ℕ)) (nodes : List ℕ) (rows : List (List ℕ)) : Type 0 where
  pub size : length rows ≡ length labels
  pub each : (label : ℕ) → label < length labels → ends_of rows label ≡ filter (has_label labels label) nodes
