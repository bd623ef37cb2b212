use Rattle.std.proofs.Common.{◌≡◌, take, string_bytes}
use Rattle.event_feed.specs.Texts.{take_lines}
use Rattle.event_feed.proofs.texts.take_lines.Given as goal

-- the lines so far
abbrev pub invariant-loop-finding : goal.invariant-loop-finding
invariant-loop-finding l = string_bytes l.text ≡ take_lines (take l.finding-index l.findings)
