-- What a running site replies to a session: each look is at one moment, at a prefix of the site's publishes that goes
-- on from all that the session has seen and learnt before. A stamp is answered once the window sees an operation of it.
use Rattle.std.specs.Prelude.{◌≡◌, true, List, length, map, nat_lt, take}
use Rattle.std.specs.List.{list_all}
use Rattle.gate_rules.specs.Rules.{GateRules}
use Rattle.ready_core.specs.Verdicts.{AreVerdicts}
use Rattle.replica_core.specs.Clock.{greatest, times}
use Rattle.replica_core.specs.Front.{IsFront}
use Rattle.replica_core.specs.Journal.{has_stamp}
use Rattle.replica_core.specs.Missing.{IsMissing}
use Rattle.review_ops.specs.Operation.{Operation}
use Rattle.site_port.specs.Ports.{Call, Reply, IsLookingFault, takes_in, lacks, reports, looks, stamped, lacked, judged}
use Rattle.site_port.specs.Ports.{looked, refused}
use Rattle.site_port.specs.declared.fault.PortFault.{PortFault}
use Rattle.site_port.specs.declared.fault.PortFault.TheVariants as port
use Rattle.review_ops.specs.Timestamp.{Timestamp}
use Rattle.site_port.specs.Sinks.{Offer, Uptake, at_time, clocks, declined, fronts, hands, reached, took}
use Rattle.site_shared.specs.Accounts.{GoesOn, Outlook}
use Rattle.site_shared.specs.Publishes.{arrive}
use Rattle.site_shared.specs.declared.fault.DeskFault.{DeskFault}
use Rattle.site_shared.specs.declared.fault.DeskFault.TheVariants as desk
use Rattle.state_core.specs.State.{state_of}

-- the fault of a session's answer for a fault of the desk
abbrev pub port_fault_of : DeskFault → PortFault
port_fault_of desk.ClockSpent = port.ClockSpent
port_fault_of (desk.BadBody cause) = port.BadBody cause
port_fault_of (desk.NoMemory count) = port.NoMemory

-- the reply at a moment at which the window has seen these publishes
abbrev pub SaysAtMoment : GateRules → List (List Operation) → Call → Reply → Type 0
SaysAtMoment gate seen (lacks front) (lacked ops more) =
    (all : List Operation) × IsMissing (arrive seen) front all × (ops ≡ take 256 all) × (more ≡ nat_lt 256 (length all))
SaysAtMoment gate seen reports (judged verdicts) = AreVerdicts gate (state_of (arrive seen)) verdicts
SaysAtMoment gate seen looks (looked journal) = journal ≡ arrive seen
SaysAtMoment gate seen (takes_in deed) (stamped stamp) = has_stamp (arrive seen) stamp ≡ true
SaysAtMoment gate seen (takes_in deed) (refused fault) = Unit {0}
SaysAtMoment gate seen call (refused fault) = IsLookingFault fault
SaysAtMoment gate seen call reply = ⊥

-- a reply, and what the window has seen once it is made
abbrev pub SiteGives : GateRules → Outlook → Call → Reply → Outlook → Type 0
SiteGives gate old call reply new = GoesOn old new × SaysAtMoment gate new.seen call reply

-- the stamps of operations, in their order
abbrev pub stamps_of : List Operation → List Timestamp
stamps_of ops = map (λ op. op.stamp) ops

-- for each of these stamps the record has an operation with it
abbrev pub HaveStamps : List Operation → List Timestamp → Type 0
HaveStamps journal stamps = list_all (has_stamp journal) stamps ≡ true

-- how a pull's offers are taken up: the front and the greatest time are those of a moment; once what is handed over is
-- taken, the window sees an operation with each of its stamps; what is declined may have been published, or held, by
-- the desk
abbrev pub SiteSinks : Outlook → Offer → Uptake → Outlook → Type 0
SiteSinks old fronts (reached front) new = GoesOn old new × IsFront (arrive new.seen) front
SiteSinks old clocks (at_time latest) new = GoesOn old new × (latest ≡ greatest (times (arrive new.seen)))
SiteSinks old (hands ops) took new = GoesOn old new × HaveStamps (arrive new.seen) (stamps_of ops)
SiteSinks old offer (declined fault) new = GoesOn old new
SiteSinks old offer uptake new = ⊥
