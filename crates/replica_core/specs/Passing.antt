-- What a front lacks of another's journal is all that its journal needs to have everything of that one.
use Rattle.std.specs.Prelude.{◌≡◌, ◌⊎◌, ◌≤◌, ◌==◌, ◌&&◌, ℕ, Bool, true, false, List, Option, Some, None}
use Rattle.std.specs.FinMap.{get}
use Rattle.std.specs.Option.{unwrap_or}
use Rattle.std.proofs.Common.{refl, sym, ap, ◌∙◌, inl, inr, arith}
use Rattle.std.proofs.lemmas.Bool.{eqb-true, ltb-false}
use Rattle.review_ops.specs.Operation.{Operation}
use Rattle.review_ops.specs.Timestamp.{Timestamp}
use Rattle.replica_core.specs.Clock.{is_of}
use Rattle.replica_core.specs.Front.{Reaches, reach_of, holds, ReachesInto, IsFront}
use Rattle.replica_core.specs.Journal.{has}
use Rattle.replica_core.specs.Missing.{IsMissing, is_past}
use Rattle.replica_core.specs.JournalLaws.{has_one, has-filter}

-- two stamps of one site under one start with one sequence number
pub record AreTwins (stamp other : Timestamp) : Type 0 where
  pub site : stamp.site ≡ other.site
  pub start : stamp.start ≡ other.start
  pub seq : stamp.seq ≡ other.seq

both_are : (a b : Bool) → (a && b) ≡ true → (a ≡ true) × (b ≡ true)
both_are true b h = (refl, h)
both_are false b h = cc

-- an operation that is held at a place of a row is a twin of any other there
twin_held : (held : List Operation) (stamp : Timestamp) → holds held stamp.site stamp.start stamp.seq ≡ true
    → (other : Operation) × (has held other ≡ true) × AreTwins stamp other.stamp
twin_held held stamp h =
    let found = has_one (λ op. is_of stamp.site stamp.start op && op.stamp.seq == stamp.seq) held h in
    let other = found.0 in
    let row = both_are (is_of stamp.site stamp.start other) (other.stamp.seq == stamp.seq) found.2 in
    let place = both_are (other.stamp.site == stamp.site) (other.stamp.start == stamp.start) row.0 in
    (other, found.1, record { site = sym (eqb-true other.stamp.site stamp.site place.0); start = sym (eqb-true other.stamp.start stamp.start place.1); seq = sym (eqb-true other.stamp.seq stamp.seq row.1) })

within_reach : (held : List Operation) (op : Operation) (reach : Option ℕ)
    → ReachesInto (holds held op.stamp.site op.stamp.start) reach → 1 ≤ op.stamp.seq → op.stamp.seq ≤ unwrap_or reach 0
    → holds held op.stamp.site op.stamp.start op.stamp.seq ≡ true
within_reach held op None is first within = absurd (omega arith)
within_reach held op (Some reach) is first within = is.1.gapless op.stamp.seq first within

-- each operation of the other journal is held, or lacked by the front
pub held_or_lacked : (held other lacked : List Operation) (front : Reaches) → IsFront held front
    → IsMissing other front lacked
    → ((op : Operation) → has other op ≡ true → 1 ≤ op.stamp.seq)
    → ((op twin : Operation) → has other op ≡ true → has held twin ≡ true → AreTwins op.stamp twin.stamp → op ≡ twin)
    → (op : Operation) → has other op ≡ true → (has held op ≡ true) ⊎ (has lacked op ≡ true)
held_or_lacked held other lacked front is_front lacks numbered_from_one no_twins op h =
    elim (is_past front op) as (λ t. is_past front op ≡ t → (has held op ≡ true) ⊎ (has lacked op ≡ true)) [
      | true ↦ λ e. inr (lacks.members op ∙ has-filter (is_past front) other op h e)
      | false ↦ λ e.
          let held_there = within_reach held op (get front (op.stamp.site, op.stamp.start)) (is_front op.stamp.site op.stamp.start) (numbered_from_one op h) (ltb-false (reach_of front op.stamp.site op.stamp.start) op.stamp.seq e) in
          let twin = twin_held held op.stamp held_there in
          inl (ap (has held) (no_twins op twin.0 h twin.1 twin.2) ∙ twin.1)
    ] refl
