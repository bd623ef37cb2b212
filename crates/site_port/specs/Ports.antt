-- What a site is asked in a session, and what it replies.
use Rattle.std.specs.Prelude.{Bool, List, Result, Ok, Err}
use Rattle.ready_core.specs.Verdicts.{Judged}
use Rattle.replica_core.specs.Front.{Reaches}
use Rattle.review_ops.specs.Deed.{Deed}
use Rattle.review_ops.specs.Operation.{Operation}
use Rattle.review_ops.specs.Timestamp.{Timestamp}
use Rattle.site_port.specs.declared.fault.PortFault.{PortFault}
use Rattle.site_port.specs.declared.fault.PortFault.TheVariants.{NoMemory, Closed}

pub data Call : Type 0 where
  -- to stamp a deed and take it in
  takes_in : (deed : Deed) → Call
  -- what a front lacks
  lacks : (front : Reaches) → Call
  -- which items are ready
  reports : Call
  -- the record
  looks : Call

pub data Reply : Type 0 where
  stamped : (stamp : Timestamp) → Reply
  -- the first operations that the front lacks, and whether others are left
  lacked : (ops : List Operation) (more : Bool) → Reply
  judged : (verdicts : Judged) → Reply
  looked : (journal : List Operation) → Reply
  refused : (fault : PortFault) → Reply

-- what a call's result replies
abbrev pub reply_by : {T : Type 0} → (T → Reply) → Result T PortFault → Reply
reply_by says (Ok value) = says value
reply_by says (Err fault) = refused fault

-- what may be answered to a call that only looks
abbrev pub IsLookingFault : PortFault → Type 0
IsLookingFault NoMemory = Unit {0}
IsLookingFault Closed = Unit {0}
IsLookingFault fault = ⊥

-- the call only looks
abbrev pub IsLook : Call → Type 0
IsLook (takes_in deed) = ⊥
IsLook call = Unit {0}

-- the reply gives what was asked for
abbrev pub IsGiven : Reply → Type 0
IsGiven (refused fault) = ⊥
IsGiven reply = Unit {0}
