-- Verdicts that follow what a window sees.
use Rattle.std.specs.Prelude.{◌≡◌, ℕ, List, Option, None, Some, IfSome, IsSome}
use mathlib.Core.List.{IsPrefix}
use Rattle.logbook.specs.Pages.{Book}
use Rattle.review_ops.specs.Operation.{Operation}
use Rattle.state_core.specs.State.{state_of}
use Rattle.gate_rules.specs.Rules.{GateRules}
use Rattle.ready_core.specs.Verdicts.{AreVerdicts, Judged}
use Rattle.watch_core.specs.Watching.{FollowsJournal, Watching}
use Rattle.site_shared.specs.Accounts.{Outlook}
use Rattle.site_shared.specs.Publishes.{arrive}
use Rattle.site_shared.specs.declared.fault.RefreshFault.{RefreshFault}
use Rattle.site_shared.specs.declared.fault.RefreshFault.TheVariants.{Stranger, NoMemory, Closed}

-- a watch: its opening and the publishes that it has seen; the site and the start of the opening; and the verdicts
-- under a gate, unless memory was refused
pub record Watched : Type 0 where
  pub book : Book
  pub seen : List (List Operation)
  pub site : ℕ
  pub start : ℕ
  pub gate : GateRules
  pub verdicts : Option Judged

-- where an evaluator has verdicts, it follows the journal
abbrev pub KeepsUp : Watching → List Operation → Type 0
KeepsUp watching journal = IfSome watching.verdicts (λ _. FollowsJournal watching journal)

-- the watch has the window's own site and start
abbrev pub IsOwnWatch : Outlook → Watched → Type 0
IsOwnWatch window watch = (watch.site ≡ window.site) × (watch.start ≡ window.start)

-- the watch has the verdicts on the journal of just these publishes
pub record HasVerdictsOf (publishes : List (List Operation)) (watch : Watched) : Type 0 where
  pub seen : watch.seen ≡ publishes
  pub judged : Judged
  pub there : watch.verdicts ≡ Some judged
  pub verdicts : AreVerdicts watch.gate (state_of (arrive publishes)) judged

-- the watch is of the window's opening, has its site and start, and the verdicts under the gate on exactly what the
-- window sees
pub record IsWatchOf (gate : GateRules) (window : Outlook) (watch : Watched) : Type 0 where
  pub own : IsOwnWatch window watch
  pub book : watch.book ≡ window.book
  pub gate_is : watch.gate ≡ gate
  pub has : HasVerdictsOf window.seen watch

-- the same watch, without verdicts
abbrev pub without_verdicts : Watched → Watched
without_verdicts watch = record watch { verdicts = None }

-- the watch is of the same opening, and has the same site, start and gate
pub record IsSameWatch (old new : Watched) : Type 0 where
  pub book : new.book ≡ old.book
  pub site : new.site ≡ old.site
  pub start : new.start ≡ old.start
  pub gate : new.gate ≡ old.gate

-- there were no verdicts, or the journal of these publishes isn't the one that they were on
abbrev pub IsBehind : Watched → List (List Operation) → Type 0
IsBehind watch publishes = IsSome watch.verdicts → ¬ (arrive publishes ≡ arrive watch.seen)

-- the window sees no less than the watch saw, and the watch has the verdicts on just what the window sees
pub record Refreshes (before : Outlook) (old : Watched) (after : Outlook) (new : Watched) : Type 0 where
  pub own : IsOwnWatch before old
  pub no_less : IsPrefix old.seen after.seen
  pub has : HasVerdictsOf after.seen new

-- memory was refused, which can be only where something new came or no verdicts were there; none are there then
pub record LacksMemory (before : Outlook) (old : Watched) (after : Outlook) (new : Watched) : Type 0 where
  pub own : IsOwnWatch before old
  pub no_less : IsPrefix old.seen after.seen
  pub behind : IsBehind old after.seen
  pub lost : new ≡ without_verdicts old

-- a watch isn't brought up to date because it has another site or start; or memory was refused, or the desk has ended
abbrev pub RefusesRefresh : Outlook → Watched → RefreshFault → Outlook → Watched → Type 0
RefusesRefresh before old Stranger after new = (¬ IsOwnWatch before old) × (after ≡ before) × (new ≡ old)
RefusesRefresh before old NoMemory after new = LacksMemory before old after new
RefusesRefresh before old Closed after new = IsOwnWatch before old × (after ≡ before) × (new ≡ old)

-- a viewer went from one state to the next by a look at a journal and at the verdicts that the watch has on just that
pub record IsShownTo {V : Type 0} (views : List Operation → Judged → V → Type 0) (journal : List Operation) (watch : Watched) (after : V) : Type 0 where
  pub judged : Judged
  pub there : watch.verdicts ≡ Some judged
  pub verdicts : AreVerdicts watch.gate (state_of journal) judged
  pub viewed : views journal judged after
