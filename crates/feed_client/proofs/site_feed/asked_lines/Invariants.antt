use Rattle.std.proofs.Common.{◌≡◌, ◌++◌, string_bytes}
use Rattle.feed_client.specs.Taking.{asked_lines}
use Rattle.feed_client.proofs.site_feed.asked_lines.Given as goal

-- the lines so far, with those that are left, are all
abbrev pub invariant-loop-change : goal.invariant-loop-change
invariant-loop-change l = string_bytes l.text ++ asked_lines l.part l.change-iterator ≡ asked_lines l.part l.changes.keys
