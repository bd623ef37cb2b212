-- What is answered to a line, and its text.
use Rattle.std.specs.Prelude.{ℕ, Bool, true, false, List, ◌++◌, codes, flat_map, Result, Ok, Err, if◌then◌else◌}
use Rattle.byte_ends.specs.Lines.{as_line}
use Rattle.gossip_line.specs.declared.fault.LineFault.{LineFault}
use Rattle.gossip_line.specs.declared.fault.LineFault.TheVariants.{BadVersion}
use Rattle.op_text.specs.Text.{operation_text}
use Rattle.report_text.specs.Report.{report_of}
use Rattle.report_text.specs.StateText.{state_text}
use Rattle.review_ops.specs.Operation.{Operation}
use Rattle.review_ops.specs.Timestamp.{Timestamp, timestamp_text}
use Rattle.site_port.specs.Ports.{Reply, stamped, lacked, judged, looked, refused}
use Rattle.site_port.specs.declared.fault.PortFault.{PortFault}
use Rattle.site_port.specs.declared.fault.PortFault.TheVariants as port
use Rattle.state_core.specs.State.{state_of}

pub data SessionAnswer : Type 0 where
  -- the version is the one that is spoken here
  greeting : SessionAnswer
  -- it is another, or none was named first
  bad_version : SessionAnswer
  -- what the port replied
  replied : (reply : Reply) → SessionAnswer
  -- memory was refused for the command or for its answer
  no_memory : SessionAnswer
  bad_command : SessionAnswer
  -- what follows the command isn't a text of its kind
  bad_text : SessionAnswer
  -- it is noted that what feeds the site heard from Gerrit
  noted : SessionAnswer
  farewell : SessionAnswer
  -- the session's key doesn't allow what the line asks for
  not_allowed : SessionAnswer

-- ---- the texts

abbrev pub hello : List ℕ
hello = codes "hello 2"

abbrev pub stamp_line : Timestamp → List ℕ
stamp_line stamp = as_line (codes "ok " ++ timestamp_text stamp)

abbrev pub operation_line : Operation → List ℕ
operation_line op = as_line (codes "op " ++ operation_text op)

-- the last line of operations: whether others are left
abbrev pub rest_line : Bool → List ℕ
rest_line more = if more then codes "more\n" else codes "done\n"

abbrev pub lacked_text : List Operation → Bool → List ℕ
lacked_text ops more = flat_map operation_line ops ++ rest_line more

abbrev pub no_memory_line : List ℕ
no_memory_line = codes "no 5 NoMemory\n"

abbrev pub refusal_line : PortFault → List ℕ
refusal_line port.ClockSpent = codes "no 9 ClockSpent\n"
refusal_line (port.BadBody cause) = codes "no 8 BadBody\n"
refusal_line port.NoMemory = no_memory_line
refusal_line port.Closed = codes "no 10 Closed\n"

abbrev pub reply_text : Reply → List ℕ
reply_text (stamped stamp) = stamp_line stamp
reply_text (lacked ops more) = lacked_text ops more
reply_text (judged verdicts) = report_of verdicts
reply_text (looked journal) = state_text (state_of journal)
reply_text (refused fault) = refusal_line fault

abbrev pub answer_text : SessionAnswer → List ℕ
answer_text greeting = codes "hello 2\n"
answer_text bad_version = codes "no 2 BadVersion\n"
answer_text (replied reply) = reply_text reply
answer_text no_memory = no_memory_line
answer_text bad_command = codes "no 6 BadCommand\n"
answer_text bad_text = codes "no 7 BadText\n"
answer_text noted = codes "noted\n"
answer_text farewell = codes "bye\n"
answer_text not_allowed = codes "no 11 NotAllowed\n"

-- what is answered to a line that is too long
abbrev pub long_line : List ℕ
long_line = codes "no 1 LongLine\n"

-- whether the session goes on after an answer, and how it ends where not
abbrev pub next_of : SessionAnswer → Result Bool LineFault
next_of bad_version = Err BadVersion
next_of farewell = Ok false
next_of answer = Ok true
