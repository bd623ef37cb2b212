-- A record that comes in rounds, and a front that goes on.
use Rattle.std.proofs.Common.{◌≡◌, ◌≤◌, ◌+◌, ◌==◌, ◌&&◌, ltb, ℕ, Bool, true, false, cond, List, [], ◌∷◌, ◌++◌}
use Rattle.std.proofs.Common.{Result, Ok, fold, max, not, refl, sym, ap, ap₂, ◌∙◌, subst, arith}
use Rattle.std.proofs.Common.{append-nil, append_assoc}
use Rattle.std.specs.FinMap.{empty, get-empty}
use Rattle.std.specs.Option.{unwrap_or}
use Rattle.std.proofs.lemmas.Bool.{and_parts, eqb-true, ltb-false, ltb-true}
use Rattle.std.proofs.lemmas.List.Concat.{flat_map-append}
use Rattle.std.proofs.lemmas.List.Elements.{Contains-append_left, Contains-push}
use Rattle.std.proofs.lemmas.List.Sums.{fold-append}
use Rattle.replica_core.specs.Front.{Reaches, raised, reach_of, row_order}
use Rattle.replica_core.specs.FrontLaws.{reach_of-raised}
use Rattle.review_ops.specs.Operation.{Operation}
use Rattle.review_ops.specs.Timestamp.{Timestamp}
use Rattle.state_core.specs.State.{State, with_effect}
use Rattle.feed_client.specs.Pulling.{AreReachedBy, Comes, HasRowStamp, IsRound, all_ops, gone_on}
use Rattle.feed_client.specs.Rounds.{SiteRound}
use Rattle.feed_client.specs.declared.intake.IntakeFault.{IntakeFault}

-- ---- rounds

pub all_ops_push : (rounds : List (List Operation)) (ops : List Operation)
    → all_ops (rounds ++ ops ∷ []) ≡ all_ops rounds ++ ops
all_ops_push rounds ops =
    flat_map-append (λ ops. ops) rounds (ops ∷ []) ∙ ap (λ l. all_ops rounds ++ l) (append-nil ops)

pub learned_push : (state mid after : State) (before ops : List Operation) → mid ≡ fold with_effect state before
    → after ≡ fold with_effect mid ops → after ≡ fold with_effect state (before ++ ops)
learned_push state mid after before ops is also =
    also ∙ ap (λ s. fold with_effect s ops) is ∙ sym (fold-append with_effect state before ops)

module _ {Site : Type 0} (answers : Site → Result SiteRound IntakeFault → Site → Type 0) where
  pub comes_push : (rounds : List (List Operation)) (ops : List Operation) (old mid new : Site)
      → Comes answers old rounds mid → answers mid (Ok (record { ops = ops; more = true })) new
      → Comes answers old (rounds ++ ops ∷ []) new
  comes_push [] ops old mid new came one =
      (new, subst (λ s. answers s (Ok (record { ops = ops; more = true })) new) came one, refl)
  comes_push (first ∷ rounds) ops old mid new came one =
      (came.0, came.1, comes_push rounds ops came.0 mid new came.2 one)

  pub more_comes : (ops : List Operation) (old new : Site) (more : Bool) → not more ≡ false
      → answers old (Ok (record { ops = ops; more = more })) new
      → answers old (Ok (record { ops = ops; more = true })) new
  more_comes ops old new true is h = h
  more_comes ops old new false is h = cc

  pub no_more : (count : ℕ) (more : Bool) (old : Site) (state : State) (new : Site) (after : State) → not more ≡ true
      → IsRound answers count more old state new after → IsRound answers count false old state new after
  no_more count true old state new after is h = cc
  no_more count false old state new after is h = h

-- ---- fronts

weaker : (stamps more : List Timestamp) (site start seq : ℕ) → HasRowStamp stamps site start seq
    → HasRowStamp (stamps ++ more) site start seq
weaker stamps more site start seq h = record {
  stamp = h.stamp;
  listed = Contains-append_left stamps more h.stamp h.listed;
  row = h.row;
  number = h.number;
}

reaches_none : (site start : ℕ) → reach_of empty site start ≡ 0
reaches_none site start = ap (λ found. unwrap_or found 0) (get-empty row_order (site, start))

-- a number that a raised row reaches is one that it reached before, or that of the stamp
in_row : (stamps : List Timestamp) (front : Reaches) (stamp : Timestamp) (site start seq : ℕ)
    → AreReachedBy stamps front → stamp.site ≡ site → stamp.start ≡ start
    → stamp.seq ≡ reach_of front site start + 1 → 1 ≤ seq → seq ≤ max (reach_of front site start) stamp.seq
    → (past : Bool) → ltb (reach_of front site start) seq ≡ past → HasRowStamp (stamps ++ stamp ∷ []) site start seq
in_row stamps front stamp site start seq h is_site is_start next low high true past =
    let beyond = ltb-true (reach_of front site start) seq past in record {
      stamp = stamp;
      listed = Contains-push stamps stamp;
      row = (is_site, is_start);
      number = omega (arith, beyond, high, next);
    }
in_row stamps front stamp site start seq h is_site is_start next low high false past =
    weaker stamps (stamp ∷ []) site start seq
    (h site start seq low (ltb-false (reach_of front site start) seq past))

at_place : (stamps : List Timestamp) (front : Reaches) (stamp : Timestamp) (site start seq : ℕ)
    → AreReachedBy stamps front → stamp.seq ≡ reach_of front stamp.site stamp.start + 1 → 1 ≤ seq → (same : Bool)
    → (stamp.site == site && stamp.start == start) ≡ same
    → seq ≤ cond same (max (reach_of front site start) stamp.seq) (reach_of front site start)
    → HasRowStamp (stamps ++ stamp ∷ []) site start seq
at_place stamps front stamp site start seq h next low true same high =
    let parts = and_parts (stamp.site == site) (stamp.start == start) same in
    let is_site : stamp.site ≡ site = eqb-true stamp.site site parts.0 in
    let is_start : stamp.start ≡ start = eqb-true stamp.start start parts.1 in
    in_row stamps front stamp site start seq h is_site is_start
    (next ∙ ap₂ (λ s t. reach_of front s t + 1) is_site is_start) low high
    (ltb (reach_of front site start) seq) refl
at_place stamps front stamp site start seq h next low false same high =
    weaker stamps (stamp ∷ []) site start seq (h site start seq low high)

goes_on : (stamps : List Timestamp) (front : Reaches) (stamp : Timestamp) → AreReachedBy stamps front
    → AreReachedBy (stamps ++ stamp ∷ []) (gone_on front stamp)
goes_on stamps front stamp h =
    elim (stamp.seq == reach_of front stamp.site stamp.start + 1) as (λ b. (stamp.seq == reach_of front stamp.site stamp.start + 1) ≡ b → AreReachedBy (stamps ++ stamp ∷ []) (cond b (raised front stamp.site stamp.start stamp.seq) front)) [
      | true ↦ λ e site start seq low high.
          at_place stamps front stamp site start seq h
          (eqb-true stamp.seq (reach_of front stamp.site stamp.start + 1) e) low
          (stamp.site == site && stamp.start == start) refl
          (subst (λ n. seq ≤ n) (reach_of-raised front stamp.site stamp.start stamp.seq site start) high)
      | false ↦ λ e site start seq low high. weaker stamps (stamp ∷ []) site start seq (h site start seq low high)
    ] refl

pub all_gone_on : (before stamps : List Timestamp) (front : Reaches) → AreReachedBy before front
    → AreReachedBy (before ++ stamps) (fold gone_on front stamps)
all_gone_on before [] front h = subst (λ l. AreReachedBy l front) (sym (append-nil before)) h
all_gone_on before (stamp ∷ stamps) front h =
    subst (λ l. AreReachedBy l (fold gone_on (gone_on front stamp) stamps)) (append_assoc before (stamp ∷ []) stamps)
    (all_gone_on (before ++ stamp ∷ []) stamps (gone_on front stamp) (goes_on before front stamp h))

pub none_gone_on : AreReachedBy [] empty
none_gone_on site start seq low high =
    absurd (omega (arith, low, subst (λ n. seq ≤ n) (reaches_none site start) high))
