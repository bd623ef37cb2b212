-- How far a journal reaches without a gap. A row is what one site stamped under one start, numbered from 1 on; a front
-- has a number for each row, and two fronts join by the greater number: the vector of Shapiro, Preguiça, Baquero and
-- Zawirski's G-Counter (INRIA RR-7506, 2011, 3.1.2).
use Rattle.std.specs.Prelude.{◌≡◌, ◌≤◌, ◌+◌, ◌==◌, ◌&&◌, ℕ, Bool, true, false, List, Option, MatchOption, IfSome}
use Rattle.std.specs.Prelude.{if◌then◌else◌}
use Rattle.std.specs.declared.cmp.Ordering.{Ordering}
use Rattle.std.specs.Ordering.{nat_cmp, ord_max}
use Rattle.std.specs.Option.{unwrap_or}
use Rattle.std.specs.List.{list_any}
use Rattle.std.specs.FinMap.{FinMap, get}
use Rattle.lattice_core.specs.Keep.{IsExactOrder, pair_order, pairs_exact, numbers_exact}
use Rattle.lattice_core.specs.JoinMap.{put_joined}
use Rattle.review_ops.specs.Operation.{Operation}
use Rattle.replica_core.specs.Clock.{is_of}

-- rows are in the order of their sites, then of their starts
abbrev pub row_order : ℕ × ℕ → ℕ × ℕ → Ordering
row_order = pair_order nat_cmp nat_cmp

pub rows_exact : IsExactOrder row_order
rows_exact = pairs_exact numbers_exact numbers_exact

-- the number of each row that a front reaches into
abbrev pub Reaches : Type 0
Reaches = FinMap row_order ℕ

-- how far a front reaches into a row: 0 where it doesn't
abbrev pub reach_of : Reaches → ℕ → ℕ → ℕ
reach_of front site start = unwrap_or (get front (site, start)) 0

-- whether the journal has an operation of the site under the start with the sequence number
abbrev pub holds : List Operation → ℕ → ℕ → ℕ → Bool
holds journal site start seq = list_any (λ op. is_of site start op && op.stamp.seq == seq) journal

-- each number up to this one is held, and the next isn't
pub record IsGapless (held : ℕ → Bool) (reach : ℕ) : Type 0 where
  pub gapless : (seq : ℕ) → 1 ≤ seq → seq ≤ reach → held seq ≡ true
  pub ends : held (reach + 1) ≡ false

-- a front has a row just where its first number is held, and reaches as far in it as there is no gap
abbrev pub ReachesInto : (ℕ → Bool) → Option ℕ → Type 0
ReachesInto held reach = MatchOption reach (held 1 ≡ false) (λ number. (1 ≤ number) × IsGapless held number)

-- the front is that of the journal
abbrev pub IsFront : List Operation → Reaches → Type 0
IsFront journal front = (site start : ℕ) → ReachesInto (holds journal site start) (get front (site, start))

-- the front, raised to the sequence number in the row where that is further; 0 is no number to reach
abbrev pub raised : Reaches → ℕ → ℕ → ℕ → Reaches
raised front site start seq = if seq == 0 then front else put_joined (ord_max nat_cmp) front (site, start) seq

-- what a front reaches is numbered from 1 on
abbrev pub AreFromOneOn : Reaches → Type 0
AreFromOneOn front = (site start : ℕ) → IfSome (get front (site, start)) (λ reach. 1 ≤ reach)
