-- The record of a site is pulled into an empty one, answer by answer, until nothing is left.
use Rattle.std.specs.Prelude.{◌≡◌, ◌<◌, ◌^◌, ℕ, true, false, List, [], length, take}
use Rattle.console.specs.declared.pulls.PullFault.{PullFault}
use Rattle.console.specs.declared.pulls.PullFault.TheVariants.{Failed, NoEnd, Unreachable}
use Rattle.gossip_line.specs.Pull as line
use Rattle.gossip_line.specs.Session.{Moment}
use Rattle.gossip_line.specs.declared.pull.Pulled.{Pulled}
use Rattle.line_reader.specs.Lines.{line_limit}
use Rattle.replica_core.specs.Clock.{greatest, times}
use Rattle.replica_core.specs.Front.{IsFront}
use Rattle.replica_core.specs.Journal.{all_arrived}
use Rattle.review_ops.specs.Operation.{Operation}
use Rattle.site_port.specs.Sinks.{Offer, Uptake, at_time, clocks, declined, fronts, hands, reached, took}
use Rattle.site_port.specs.declared.fault.SinkFault.TheVariants as sink
use Rattle.snapshot_text.specs.Sound.{AreSoundOperations}

-- the record says its front and its greatest time, and takes all that it is handed; where memory is refused, the first
-- so many of the operations
abbrev pub Gathers : List Operation → Offer → Uptake → List Operation → Type 0
Gathers old fronts (reached front) new = IsFront old front × (new ≡ old)
Gathers old fronts (declined sink.NoMemory) new = new ≡ old
Gathers old clocks (at_time latest) new = (latest ≡ greatest (times old)) × (new ≡ old)
Gathers old (hands ops) took new = AreSoundOperations ops × (new ≡ all_arrived old ops)
Gathers old (hands ops) (declined sink.NoMemory) new =
    (count : ℕ) × (count < length ops) × (new ≡ all_arrived old (take count ops))
Gathers old offer uptake new = ⊥

-- how many answers a record may have
abbrev pub most_rounds : ℕ
most_rounds = 65536

-- a pull that ended well, and says that nothing is left
abbrev pub Pulls : Moment (List Operation) → Moment (List Operation) → Type 0
Pulls before after =
    (pulled : Pulled) × line.PullsWell Gathers line_limit most_rounds before after pulled × (pulled.more ≡ false)

-- a pull that failed; or that ended well, and says that more is left
abbrev pub Unpulls : Moment (List Operation) → Moment (List Operation) → PullFault → Type 0
Unpulls before after (Failed fault) = line.Fails Gathers line_limit most_rounds before after fault
Unpulls before after NoEnd =
    (pulled : Pulled) × line.PullsWell Gathers line_limit most_rounds before after pulled × (pulled.more ≡ true)
Unpulls before after Unreachable = ⊥

-- some operations came, each as an operation has to be, and no more than a snapshot can count
pub record Comes (journal : List Operation) : Type 0 where
  pub ops : List Operation
  pub sound : AreSoundOperations ops
  pub few : length ops < 10 ^ 20
  pub is : journal ≡ all_arrived [] ops
