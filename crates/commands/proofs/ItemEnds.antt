-- How the command ends that is asked for one item.
use Rattle.std.proofs.Common.{◌≡◌, ◌⊎◌, inl, inr, ℕ, Bool, false, List, [], Option, Ok, Err, refl, sym, subst}
use Rattle.std.proofs.Common.{◌∙◌, ap, get_or}
use Rattle.std.proofs.lemmas.Option.{get_or_from_slice_get}
use Rattle.lattice_core.specs.PlaceLaws.{Contains-at}
use Rattle.gate_rules.specs.Rules.{GateRules}
use Rattle.ready_core.specs.Verdicts.{IsOutAt}
use Rattle.ready_core.specs.declared.verdicts.Left.{Left}
use Rattle.state_core.specs.State.{State}
use Rattle.state_core.specs.declared.item.Item.{Item}
use Rattle.why_text.specs.Asked.{IsItemAsked}
use Rattle.console.specs.Printing.{Ended}
use Rattle.console.specs.Showing.{ErrorOutput, ShowsLine}
use Rattle.console.specs.Refusals.{refusal_line}
use Rattle.console.specs.declared.refusals.Refusal.{Refusal}
use Rattle.console.specs.declared.refusals.Refusal.TheVariants.{Script, Snapshot, Gate, File, NotText, NoItem, Output}
use Rattle.console.specs.declared.refusals.Refusal.TheVariants.{Memory, NoAddress, Peer, Waits, Warnings}
use Rattle.command_line.specs.declared.asked.OutputFormat.{OutputFormat}
use Rattle.command_line.specs.declared.asked.ReadyItemCommand.{ReadyItemCommand}
use Rattle.commands.specs.Answers.{EndsItem, IsItemPrinted, IsLeftSo, IsStanding, out_as}
use Rattle.commands.specs.Running.{Reports}

-- a refusal other than that an item waits is reported
pub refused_so : (refusal : Refusal) (old new : ErrorOutput) → ¬ (refusal ≡ Waits)
    → ShowsLine (refusal_line refusal) old new → Reports old new (Err refusal) 1
refused_so (Script fault) old new other shows = (shows, refl)
refused_so (Snapshot fault name) old new other shows = (shows, refl)
refused_so (Gate fault) old new other shows = (shows, refl)
refused_so (File name fault) old new other shows = (shows, refl)
refused_so (NotText name) old new other shows = (shows, refl)
refused_so (Peer fault port) old new other shows = (shows, refl)
refused_so (NoAddress name) old new other shows = (shows, refl)
refused_so (NoItem change set) old new other shows = (shows, refl)
refused_so Waits old new other shows = absurd (other refl)
refused_so (Warnings count) old new other shows = (shows, refl)
refused_so Output old new other shows = (shows, refl)
refused_so Memory old new other shows = (shows, refl)

module _ (command : ReadyItemCommand) (rules : GateRules) (state : State) where
  -- an item that stands so ends the command
  pub standing_ends : (answer : List ℕ) (is_ready : Bool) (ended : Ended) → IsStanding command is_ready rules state answer
      → EndsItem is_ready ended → IsItemPrinted command rules state answer ended
  standing_ends answer is_ready (Ok done) stands is =
      subst (λ (b : Bool). IsStanding command b rules state answer) is stands
  standing_ends answer is_ready (Err Waits) stands is =
      subst (λ (b : Bool). IsStanding command b rules state answer) is stands
  standing_ends answer is_ready (Err refusal) stands is = absurd is

  -- there is no such item, or memory was refused
  pub none_ends : (refusal : Refusal)
      → ((refusal ≡ NoItem command.change command.set)
      × ((item : Item) → ¬ IsItemAsked state command.change command.set item)) ⊎ (refusal ≡ Memory)
      → IsItemPrinted command rules state [] (Err refusal)
  none_ends refusal (inl none) =
      subst (λ (r : Refusal). IsItemPrinted command rules state [] (Err r)) (sym none.0)
      ((refl, refl), λ has. none.1 has.0 has.1, refl)
  none_ends refusal (inr memory) =
      subst (λ (r : Refusal). IsItemPrinted command rules state [] (Err r)) (sym memory) (refl, refl)

-- ---- how an item stands

pub out_written : (format : OutputFormat) (out : List Left) (item : Item) (place : ℕ) (d : Left) (line : List ℕ)
    → IsOutAt out item place → line ≡ out_as format (get_or out place d) → IsLeftSo format out item false line
out_written format out item place d line at written =
    let read : get_or out place d ≡ at.left = get_or_from_slice_get out place at.left d at.here in
    (refl, at.left, Contains-at out place at.left at.here, at.of, written ∙ ap (out_as format) read)
