-- Marks of nodes with those of a block of targets that they lead to: one bit for each target, in words of 64.
use Rattle.std.specs.Prelude.{◌≡◌, ◌↔◌, ◌⊎◌, ◌+◌, ◌-◌, ◌/◌, ◌%◌, ◌<◌, ◌^◌, ℕ, Bool, List, [], ◌++◌, Option, None, Some}
use Rattle.std.specs.Prelude.{Contains, MatchBool, length, min, slice_get, slice_index, sum_by, bit_or, count_ones}
use Rattle.std.specs.Ordering.{nat_cmp}
use Rattle.std.specs.List.Sorted.{IsStrictlySortedBy}
use Rattle.std.specs.Int.{bit_at}
use Rattle.walk_core.specs.Ranks.{HasCount, LeadsTo}
use Rattle.walk_core.specs.Digraphs.{HasEdge}
use Rattle.walk_core.specs.declared.block.Marks.{Marks}

-- the target is marked
abbrev pub HasMark : List ℕ → ℕ → Type 0
HasMark words target = bit_at (slice_index words (target / 64)) (target % 64) ≡ 1

-- one target more is marked
abbrev pub PutsMark : ℕ → List ℕ → List ℕ → Type 0
PutsMark target before after = (other : ℕ) → HasMark after other ↔ (HasMark before other ⊎ (other ≡ target))

-- what one of two has is marked
pub record AreJoined (a b both : List ℕ) : Type 0 where
  pub size : length both ≡ length a
  pub each : (k : ℕ) → slice_index both k ≡ bit_or (slice_index a k) (slice_index b k)

-- ---- rows of marks, one for each node

abbrev pub words_of : Option Marks → List ℕ
words_of None = []
words_of (Some marks) = marks.words

abbrev pub words_at : List Marks → ℕ → List ℕ
words_at rows row = words_of (slice_get rows row)

abbrev pub IsMarkedAt : List Marks → ℕ → ℕ → Type 0
IsMarkedAt rows row target = HasMark (words_at rows row) target

abbrev pub AreBare : List Marks → Type 0
AreBare rows = (row target : ℕ) → ¬ IsMarkedAt rows row target

-- the node leads to the block's target
pub record LeadsToTarget (graph : List (List ℕ)) (block : List ℕ) (row target : ℕ) : Type 0 where
  pub within : target < length block
  pub leads : LeadsTo (HasEdge graph) row (slice_index block target)

-- each mark is right
abbrev pub AreSound : List (List ℕ) → List ℕ → List Marks → Type 0
AreSound graph block rows = (row target : ℕ) → IsMarkedAt rows row target → LeadsToTarget graph block row target

abbrev pub MarksAreKept : List Marks → List Marks → Type 0
MarksAreKept before after = (row target : ℕ) → IsMarkedAt before row target → IsMarkedAt after row target

-- a node is marked with what the ends of its edges are marked with; each node's marks are at its first node
abbrev pub IsGathered : List (List ℕ) → List ℕ → List Marks → ℕ → Type 0
IsGathered graph firsts rows x =
    (y target : ℕ) → HasEdge graph x y → IsMarkedAt rows (slice_index firsts y) target
    → IsMarkedAt rows (slice_index firsts x) target

abbrev pub AreGathered : List (List ℕ) → List ℕ → List ℕ → List Marks → Type 0
AreGathered graph firsts nodes rows = (x : ℕ) → Contains nodes x → IsGathered graph firsts rows x

-- all marks as one number, which rises with each new mark
abbrev pub total_of : List Marks → ℕ
total_of rows = sum_by (λ marks. sum_by (λ word. word) marks.words) rows

-- it is the first node of one of these
abbrev pub IsFirstOf : List ℕ → List ℕ → ℕ → Type 0
IsFirstOf firsts nodes row = (x : ℕ) × Contains nodes x × (slice_index firsts x ≡ row)

-- each row is that of a first node of these, or has the marks that it had
abbrev pub AreKeptElsewhere : List ℕ → List ℕ → List Marks → List Marks → Type 0
AreKeptElsewhere firsts nodes before after =
    (row : ℕ) → IsFirstOf firsts nodes row ⊎ (words_at after row ≡ words_at before row)

-- marks were passed on against edges of the nodes: some are new, or there was none to pass on
pub record Passes (graph : List (List ℕ)) (firsts nodes : List ℕ) (before after : List Marks) (changes : Bool) : Type 0 where
  pub size : length after ≡ length before
  pub kept : MarksAreKept before after
  pub sound : (block : List ℕ) → AreSound graph block before → AreSound graph block after
  pub elsewhere : AreKeptElsewhere firsts nodes before after
  pub step : MatchBool changes (total_of before < total_of after)
      ((after ≡ before) × AreGathered graph firsts nodes after)

-- marks were passed on until nothing changed
pub record PassesAll (graph : List (List ℕ)) (firsts nodes : List ℕ) (before after : List Marks) : Type 0 where
  pub size : length after ≡ length before
  pub kept : MarksAreKept before after
  pub sound : (block : List ℕ) → AreSound graph block before → AreSound graph block after
  pub elsewhere : AreKeptElsewhere firsts nodes before after
  pub gathered : AreGathered graph firsts nodes after

-- each target is marked at its first node, and nothing else is marked
pub record AreMarked (graph : List (List ℕ)) (firsts block : List ℕ) (rows : List Marks) : Type 0 where
  pub sound : AreSound graph block rows
  pub each : (target : ℕ) → target < length block
      → IsMarkedAt rows (slice_index firsts (slice_index block target)) target
  pub only : (row target : ℕ) → IsMarkedAt rows row target → IsFirstOf firsts block row

-- a node's marks were added to its count, and taken away
pub record IsTaken (before after : List Marks) (counts now : List ℕ) (row : ℕ) : Type 0 where
  pub bare : (target : ℕ) → ¬ IsMarkedAt after row target
  pub count : slice_index now row ≡ min (slice_index counts row + sum_by count_ones (words_at before row)) (2 ^ 64 - 1)

-- a node has the marks and the count that it had
pub record IsLeft (before after : List Marks) (counts now : List ℕ) (row : ℕ) : Type 0 where
  pub words : words_at after row ≡ words_at before row
  pub count : slice_index now row ≡ slice_index counts row

-- the marks of the first nodes of these were added to their counts, and taken away; nothing else changed
pub record TakesCounts (firsts nodes : List ℕ) (before after : List Marks) (counts now : List ℕ) : Type 0 where
  pub size : length after ≡ length before
  pub counts_size : length now ≡ length counts
  pub taken : (row : ℕ) → IsFirstOf firsts nodes row → IsTaken before after counts now row
  pub left : (row : ℕ) → IsFirstOf firsts nodes row ⊎ IsLeft before after counts now row

-- how many of some nodes the node leads to
abbrev pub LeadsToCount : List (List ℕ) → List ℕ → ℕ → ℕ → Type 0
LeadsToCount graph nodes x count = HasCount nat_cmp (λ y. Contains nodes y × LeadsTo (HasEdge graph) x y) count

-- each node's count, which is at its first node, has come to the block's targets
abbrev pub CountsBlock : List (List ℕ) → List ℕ → List ℕ → List ℕ → List ℕ → List ℕ → Type 0
CountsBlock graph firsts nodes block counts now = (x : ℕ) (done : List ℕ) → Contains nodes x
    → IsStrictlySortedBy nat_cmp (done ++ block) → length (done ++ block) < 2 ^ 64
    → LeadsToCount graph done x (slice_index counts (slice_index firsts x))
    → LeadsToCount graph (done ++ block) x (slice_index now (slice_index firsts x))

-- each count is that of a first node of these, or as it was
abbrev pub AreCountsElsewhere : List ℕ → List ℕ → List ℕ → List ℕ → Type 0
AreCountsElsewhere firsts nodes counts now =
    (row : ℕ) → IsFirstOf firsts nodes row ⊎ (slice_index now row ≡ slice_index counts row)

-- the nodes hold the ends of their edges
pub record HoldEnds (graph : List (List ℕ)) (nodes : List ℕ) : Type 0 where
  pub within : (x : ℕ) → Contains nodes x → x < length graph
  pub ends : (x y : ℕ) → Contains nodes x → HasEdge graph x y → Contains nodes y
