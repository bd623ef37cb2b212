-- The lines that are written for what was found in a line.
use Rattle.std.specs.Prelude.{ℕ, List, [], ◌++◌, Bool, true, false, codes, decimal, flat_map}
use Rattle.std.specs.List.{list_any}
use Rattle.op_text.specs.Text.{body_text}
use Rattle.gerrit_events.specs.Fault.{number_of, text_of}
use Rattle.gerrit_events.specs.declared.fault.EventFault.{EventFault}
use Rattle.gerrit_events.specs.declared.fault.EventFault.TheVariants.{BadEvent, Dropped}
use Rattle.refusal_line.specs.Line.{line_of}
use Rattle.refusal_line.specs.declared.part.Part.TheVariants.{Events}
use Rattle.review_ops.specs.Deed.{Deed, patch_set}
use Rattle.gerrit_events.specs.declared.finding.Finding.{Finding}
use Rattle.gerrit_events.specs.declared.finding.Finding.TheVariants.{Brings, Shows, Lists, Refuses}

-- a body, as a session takes it
abbrev pub body_line : Deed → List ℕ
body_line body = codes "take " ++ body_text body ++ codes "\n"

-- a patch set that an event shows is a body, too; that it shows no vote is none, since it may not have been taken back
abbrev pub shown_line : Deed → List ℕ
shown_line (patch_set change set message parent) = body_line (patch_set change set message parent)
shown_line deed = []

-- a listing is no body
abbrev pub take_line : Finding → List ℕ
take_line (Brings body) = body_line body
take_line (Shows body) = shown_line body
take_line (Lists listing) = []
take_line (Refuses fault) = []

abbrev pub bad_event_words : ℕ → List ℕ → List ℕ
bad_event_words number key = (codes "BadEvent " ++ decimal number ++ codes " ") ++ key

abbrev pub fault_words : ℕ → EventFault → List ℕ
fault_words number (BadEvent key) = bad_event_words number (text_of key)
fault_words number Dropped = codes "Dropped " ++ decimal number

-- what is refused of the line of this number
abbrev pub fault_line : ℕ → EventFault → List ℕ
fault_line number fault = line_of Events (number_of fault) (fault_words number fault)

abbrev pub refusal_line : ℕ → Finding → List ℕ
refusal_line number (Brings body) = []
refusal_line number (Shows body) = []
refusal_line number (Lists listing) = []
refusal_line number (Refuses fault) = fault_line number fault

abbrev pub take_lines : List Finding → List ℕ
take_lines findings = flat_map take_line findings

abbrev pub refusal_lines : ℕ → List Finding → List ℕ
refusal_lines number findings = flat_map (refusal_line number) findings

-- Gerrit dropped events
abbrev pub is_drop : Finding → Bool
is_drop (Brings body) = false
is_drop (Shows body) = false
is_drop (Lists listing) = false
is_drop (Refuses (BadEvent key)) = false
is_drop (Refuses Dropped) = true

abbrev pub drops : List Finding → Bool
drops findings = list_any is_drop findings
