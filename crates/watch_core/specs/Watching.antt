-- What an evaluator that follows a journal knows of it.
use Rattle.std.specs.Prelude.{◌≡◌, ◌≤◌, ◌++◌, ℕ, List, Option, None, Some, IfSome, length, map, take}
use Rattle.std.proofs.Common.{sym, subst, arith}
use Rattle.std.proofs.lemmas.List.{length-append, take-append-le, take_all}
use Rattle.review_ops.specs.Operation.{Operation}
use Rattle.gate_rules.specs.Rules.{GateRules}
use Rattle.state_core.specs.State.{state_of}
use Rattle.std.specs.List.Sorted.{IsStrictlySortedBy}
use Rattle.walk_core.specs.Ranks.{Rank, rank_cmp}
use Rattle.state_core.specs.declared.item.Item.{Item}
use Rattle.state_core.specs.State.{State}
use Rattle.state_core.specs.Items.{item_cmp}
use Rattle.ready_core.specs.RankedVerdicts.{AreReadyRanks}
use Rattle.ready_core.specs.Verdicts.{AreVerdicts, Judged}
use Rattle.watch_core.specs.Namers.{HaveRows, Rows}

-- the gate, how many operations of the journal were seen, and the verdicts, unless memory was refused
pub record Watching : Type 0 where
  pub gate : GateRules
  pub seen : ℕ
  pub verdicts : Option Judged
  pub ranks : List (Rank Item)
  pub namers : Rows

-- beside the verdicts of the state, what each ready item is ordered by, in order, and all items that wait for a change
pub record AreKeptVerdicts (gate : GateRules) (state : State) (ordered : List (Rank Item)) (waiting : Rows) (judged : Judged) : Type 0 where
  pub ready : judged.ready ≡ map (λ rank. rank.node) ordered
  pub ranks : AreReadyRanks gate state ordered
  pub rising : IsStrictlySortedBy (rank_cmp item_cmp) ordered
  pub namers : HaveRows gate state waiting

-- what was seen begins the journal, and the verdicts are those of what was seen
pub record AreOfSeen (watching : Watching) (journal : List Operation) (judged : Judged) : Type 0 where
  pub seen : watching.seen ≤ length journal
  pub verdicts : AreVerdicts watching.gate (state_of (take watching.seen journal)) judged
  pub kept : AreKeptVerdicts watching.gate (state_of (take watching.seen journal)) watching.ranks watching.namers judged

-- the journal begins the other
abbrev pub Extends : List Operation → List Operation → Type 0
Extends journal other = (later : List Operation) × (other ≡ journal ++ later)

-- the verdicts, where there are any, are those of what begins the journal
abbrev pub Precedes : Watching → List Operation → Type 0
Precedes watching journal = IfSome watching.verdicts (AreOfSeen watching journal)

-- the whole journal was seen, and the verdicts are those of its state
pub record FollowsJournal (watching : Watching) (journal : List Operation) : Type 0 where
  pub seen : watching.seen ≡ length journal
  pub judged : Judged
  pub there : watching.verdicts ≡ Some judged
  pub verdicts : AreVerdicts watching.gate (state_of journal) judged
  pub kept : AreKeptVerdicts watching.gate (state_of journal) watching.ranks watching.namers judged

goes_on : (watching : Watching) (journal later : List Operation) (found : Option Judged)
    → IfSome found (AreOfSeen watching journal) → IfSome found (AreOfSeen watching (journal ++ later))
goes_on watching journal later None are = tt
goes_on watching journal later (Some judged) are = record {
  seen = omega (arith, are.seen, length-append journal later);
  verdicts = subst (λ l. AreVerdicts watching.gate (state_of l) judged)
      (sym (take-append-le watching.seen journal later are.seen)) are.verdicts;
  kept = subst (λ l. AreKeptVerdicts watching.gate (state_of l) watching.ranks watching.namers judged)
      (sym (take-append-le watching.seen journal later are.seen)) are.kept;
}

-- what begins a journal begins one that goes on from there
pub Precedes-append : (watching : Watching) (journal later : List Operation) → Precedes watching journal
    → Precedes watching (journal ++ later)
Precedes-append watching journal later are = goes_on watching journal later watching.verdicts are

pub Precedes-extends : (watching : Watching) (journal other : List Operation) → Extends journal other
    → Precedes watching journal → Precedes watching other
Precedes-extends watching journal other more are =
    subst (Precedes watching) (sym more.1) (Precedes-append watching journal more.0 are)

-- and so does the whole journal
pub Follows-Precedes : (watching : Watching) (journal : List Operation) → FollowsJournal watching journal
    → Precedes watching journal
Follows-Precedes watching journal is = subst (λ found. IfSome found (AreOfSeen watching journal)) (sym is.there)
    (record {
      seen = omega (arith, is.seen);
      verdicts = subst (λ l. AreVerdicts watching.gate (state_of l) is.judged)
          (sym (take_all watching.seen journal (omega (arith, is.seen)))) is.verdicts;
      kept = subst (λ l. AreKeptVerdicts watching.gate (state_of l) watching.ranks watching.namers is.judged)
          (sym (take_all watching.seen journal (omega (arith, is.seen)))) is.kept;
    })
