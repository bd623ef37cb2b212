-- What a site is offered in a pull, and how it takes that up.
use Rattle.std.specs.Prelude.{ℕ, List, Result, Ok, Err}
use Rattle.replica_core.specs.Front.{Reaches}
use Rattle.review_ops.specs.Operation.{Operation}
use Rattle.site_port.specs.declared.fault.SinkFault.{SinkFault}

pub data Offer : Type 0 where
  -- to say how far the record goes
  fronts : Offer
  -- to say the greatest time of the record, or 0
  clocks : Offer
  -- to take these operations
  hands : (ops : List Operation) → Offer

pub data Uptake : Type 0 where
  reached : (front : Reaches) → Uptake
  at_time : (latest : ℕ) → Uptake
  took : Uptake
  declined : (fault : SinkFault) → Uptake

-- how a call's result takes an offer up
abbrev pub uptake_by : {T : Type 0} → (T → Uptake) → Result T SinkFault → Uptake
uptake_by says (Ok value) = says value
uptake_by says (Err fault) = declined fault

abbrev pub uptake_of : Result (Unit {0}) SinkFault → Uptake
uptake_of = uptake_by (λ _. took)
