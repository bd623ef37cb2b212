use Rattle.std.proofs.Common.{◌≡◌, take, string_bytes}
use Rattle.event_feed.specs.Texts.{refusal_lines}
use Rattle.event_feed.proofs.texts.refusal_lines.Given as goal

-- the lines so far
abbrev pub invariant-loop-finding : goal.invariant-loop-finding
invariant-loop-finding l = string_bytes l.text ≡ refusal_lines l.number (take l.finding-index l.findings)
