-- When and where an operation was made.
use Rattle.std.specs.Prelude.{ℕ, ◌^◌, ◌<◌, ◌≤◌, ◌++◌, ◌∷◌, List}
use Rattle.std.specs.declared.cmp.Ordering.{Ordering}
use Rattle.std.specs.Fmt.{decimal}
use Rattle.std.specs.Ordering.{nat_cmp, on, then_cmp}
use Rattle.std.proofs.Common.{ap}
use Rattle.std.proofs.lemmas.Cmp.{nat_cmp_total, on_total, then_total}
use Rattle.std.proofs.lemmas.Map.Lookups.{exact_pairs, exact_unsigned}
use Rattle.lattice_core.specs.Keep.{IsExactOrder}

-- the clock that a site keeps, the site, the number of the site's run, and the operation's place in that run (the
-- project's own: Lamport's clock, with ties broken by where the operation was made)
pub record Timestamp : Type 0 where
  pub time : ℕ
  pub site : ℕ
  pub start : ℕ
  pub seq : ℕ

-- in the order of the fields
abbrev pub timestamp_cmp : Timestamp → Timestamp → Ordering
timestamp_cmp = then_cmp (on (λ t. t.time) nat_cmp)
    (then_cmp (on (λ t. t.site) nat_cmp) (then_cmp (on (λ t. t.start) nat_cmp) (on (λ t. t.seq) nat_cmp)))

-- places are counted from 1, and each number fits its field
pub record IsNumbered (t : Timestamp) : Type 0 where
  pub first : 1 ≤ t.seq
  pub time : t.time < 2 ^ 64
  pub site : t.site < 2 ^ 16
  pub start : t.start < 2 ^ 32
  pub seq : t.seq < 2 ^ 64

-- the fields in decimal, with commas between them
abbrev pub timestamp_text : Timestamp → List ℕ
timestamp_text t = decimal t.time ++ (44 ∷ decimal t.site) ++ (44 ∷ decimal t.start) ++ (44 ∷ decimal t.seq)

-- stamps that compare alike are one
pub timestamps_exact : IsExactOrder timestamp_cmp
timestamps_exact = record {
  total = then_total (on_total (λ t. t.time) nat_cmp_total) (then_total (on_total (λ t. t.site) nat_cmp_total) (then_total (on_total (λ t. t.start) nat_cmp_total) (on_total (λ t. t.seq) nat_cmp_total)));
  exact = λ s t alike.
      ap (λ (k : ℕ × (ℕ × (ℕ × ℕ))). record { time = k.0; site = k.1.0; start = k.1.1.0; seq = k.1.1.1 })
      (exact_pairs nat_cmp _ exact_unsigned (exact_pairs nat_cmp _ exact_unsigned (exact_pairs nat_cmp nat_cmp exact_unsigned exact_unsigned))
      (s.time, (s.site, (s.start, s.seq))) (t.time, (t.site, (t.start, t.seq))) alike);
}
