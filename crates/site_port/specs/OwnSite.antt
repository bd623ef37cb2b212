-- A site that answers by itself: each reply is one that the machine of sites gives, over the site's journal.
use Rattle.std.specs.Prelude.{◌≡◌, ◌<◌, ℕ, List, length, take, nat_lt}
use Rattle.gate_rules.specs.Rules.{GateRules}
use Rattle.ready_core.specs.Verdicts.{AreVerdicts}
use Rattle.replica_core.specs.Clock.{next_of, IsSpent, greatest, times}
use Rattle.replica_core.specs.Front.{IsFront}
use Rattle.replica_core.specs.Journal.{arrived, all_arrived}
use Rattle.replica_core.specs.Missing.{IsMissing}
use Rattle.review_ops.specs.Deed.{Deed, kept_deed}
use Rattle.review_ops.specs.Fault.{IsFirstBodyFault}
use Rattle.review_ops.specs.Good.{IsFaultless}
use Rattle.review_ops.specs.Operation.{Operation}
use Rattle.state_core.specs.State.{state_of}
use Rattle.site_port.specs.Ports.{Call, Reply, takes_in, lacks, reports, looks, stamped, lacked, judged, looked}
use Rattle.site_port.specs.Ports.{refused}
use Rattle.site_port.specs.Sinks.{Offer, Uptake, at_time, clocks, fronts, hands, reached, took, declined}
use Rattle.site_port.specs.declared.fault.PortFault.TheVariants as port
use Rattle.site_port.specs.declared.fault.SinkFault.TheVariants as sink

-- the record, the gate that it is judged under, and the site and the start of what is taken in
pub record OwnState : Type 0 where
  pub journal : List Operation
  pub gate : GateRules
  pub site : ℕ
  pub start : ℕ

-- a stamp is left for the site
abbrev pub HasNextStamp : OwnState → Type 0
HasNextStamp own = ¬ IsSpent own.journal own.site own.start

-- the operation of a deed, as it is kept, under the next stamp
abbrev pub next_operation : OwnState → Deed → Operation
next_operation own deed = record { stamp = next_of own.journal own.site own.start; deed = kept_deed deed }

-- memory is refused, and nothing changes; else: an intake is refused where no stamp is left, then where the body is
-- bad, and adds one operation under the next stamp; what a front lacks are the first 256 of the missing operations
abbrev pub OwnGives : OwnState → Call → Reply → OwnState → Type 0
OwnGives old (takes_in deed) (stamped stamp) new =
    HasNextStamp old × IsFaultless deed × (stamp ≡ next_of old.journal old.site old.start)
    × (new ≡ record old { journal = arrived old.journal (next_operation old deed) })
OwnGives old (takes_in deed) (refused port.ClockSpent) new = IsSpent old.journal old.site old.start × (new ≡ old)
OwnGives old (takes_in deed) (refused (port.BadBody cause)) new =
    HasNextStamp old × IsFirstBodyFault cause deed × (new ≡ old)
OwnGives old (takes_in deed) (refused port.NoMemory) new = HasNextStamp old × IsFaultless deed × (new ≡ old)
OwnGives old (lacks front) (lacked ops more) new =
    ((all : List Operation) × IsMissing old.journal front all × (ops ≡ take 256 all) × (more ≡ nat_lt 256 (length all)))
    × (new ≡ old)
OwnGives old (lacks front) (refused port.NoMemory) new = new ≡ old
OwnGives old reports (judged verdicts) new = AreVerdicts old.gate (state_of old.journal) verdicts × (new ≡ old)
OwnGives old reports (refused port.NoMemory) new = new ≡ old
OwnGives old looks (looked journal) new = (journal ≡ old.journal) × (new ≡ old)
OwnGives old looks (refused port.NoMemory) new = new ≡ old
OwnGives old call reply new = ⊥

-- it says its front and its greatest time, and takes what it is handed as a delivery is taken: where memory is refused,
-- the first so many of the operations
abbrev pub OwnSinks : OwnState → Offer → Uptake → OwnState → Type 0
OwnSinks old fronts (reached front) new = IsFront old.journal front × (new ≡ old)
OwnSinks old fronts (declined sink.NoMemory) new = new ≡ old
OwnSinks old clocks (at_time latest) new = (latest ≡ greatest (times old.journal)) × (new ≡ old)
OwnSinks old (hands ops) took new = new ≡ record old { journal = all_arrived old.journal ops }
OwnSinks old (hands ops) (declined sink.NoMemory) new =
    (count : ℕ) × (count < length ops) × (new ≡ record old { journal = all_arrived old.journal (take count ops) })
OwnSinks old offer uptake new = ⊥
