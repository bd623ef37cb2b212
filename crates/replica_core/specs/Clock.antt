-- The stamp that a site's next operation gets, after Lamport's clocks: above all that the site has seen.
use Rattle.std.specs.Prelude.{◌≡◌, ◌⊎◌, ◌+◌, ◌-◌, ◌^◌, ℕ, Bool, List, map, filter, fold, max, ◌==◌, ◌&&◌}
use Rattle.review_ops.specs.Timestamp.{Timestamp}
use Rattle.review_ops.specs.Operation.{Operation}

-- the greatest of these numbers, or 0
abbrev pub greatest : List ℕ → ℕ
greatest numbers = fold max 0 numbers

abbrev pub times : List Operation → List ℕ
times journal = map (λ op. op.stamp.time) journal

-- whether the operation is one of the site under the start
abbrev pub is_of : ℕ → ℕ → Operation → Bool
is_of site start op = op.stamp.site == site && op.stamp.start == start

abbrev pub seqs : ℕ → ℕ → List Operation → List ℕ
seqs site start journal = map (λ op. op.stamp.seq) (filter (is_of site start) journal)

-- one above every time, and one above every sequence number of the site under the start
abbrev pub next_of : List Operation → ℕ → ℕ → Timestamp
next_of journal site start = record {
  time = greatest (times journal) + 1;
  site = site;
  start = start;
  seq = greatest (seqs site start journal) + 1;
}

-- there is nothing above, in 64 bits
abbrev pub IsSpent : List Operation → ℕ → ℕ → Type 0
IsSpent journal site start = (greatest (times journal) ≡ 2 ^ 64 - 1) ⊎ (greatest (seqs site start journal) ≡ 2 ^ 64 - 1)
