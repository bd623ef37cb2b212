-- What a running site prints, and what it keeps for that.
use Rattle.std.specs.Prelude.{◌≡◌, ℕ, List, []}
use Rattle.gate_rules.specs.Rules.{GateRules}
use Rattle.ready_core.specs.Verdicts.{AreVerdicts, Judged}
use Rattle.report_changes.specs.Lines.{changes_text}
use Rattle.report_changes.specs.Listing.{listed_of}
use Rattle.report_text.specs.Report.{report_of}
use Rattle.review_ops.specs.Operation.{Operation}
use Rattle.site_serve.specs.declared.setup.Prints.{Prints}
use Rattle.site_serve.specs.declared.setup.Prints.TheVariants.{Report, Changes, Nothing}
use Rattle.site_shared.specs.Publishes.{arrive}
use Rattle.site_shared.specs.Watches.{HasVerdictsOf, Watched}
use Rattle.state_core.specs.State.{state_of}

-- the text is the report under the gate of the journal of just these publishes
pub record IsReportOf (gate : GateRules) (seen : List (List Operation)) (text : List ℕ) : Type 0 where
  pub judged : Judged
  pub verdicts : AreVerdicts gate (state_of (arrive seen)) judged
  pub text_is : text ≡ report_of judged

-- the text says what changed from what was listed before to what is listed under the gate of that journal
pub record AreChangesOf (gate : GateRules) (seen : List (List Operation)) (before : Judged) (text : List ℕ) (listed : Judged) : Type 0 where
  pub judged : Judged
  pub verdicts : AreVerdicts gate (state_of (arrive seen)) judged
  pub text_is : text ≡ changes_text before listed
  pub listed_is : listed ≡ listed_of judged

-- what is printed of a look, and what is listed after it, by what was listed before
abbrev pub IsPrintedOf : Prints → GateRules → List (List Operation) → Judged → List ℕ → Judged → Type 0
IsPrintedOf Report gate seen before text listed = IsReportOf gate seen text
IsPrintedOf Changes gate seen before text listed = AreChangesOf gate seen before text listed
IsPrintedOf Nothing gate seen before text listed = text ≡ []

-- the watch has the gate, and the verdicts on the journal of just these publishes
pub record IsWatchOn (gate : GateRules) (seen : List (List Operation)) (watch : Watched) : Type 0 where
  pub gate_is : watch.gate ≡ gate
  pub has : HasVerdictsOf seen watch
