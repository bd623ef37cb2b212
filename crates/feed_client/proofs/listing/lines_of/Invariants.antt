use Rattle.std.proofs.Common.{◌≡◌, map, string_bytes, take}
use Rattle.review_ops.specs.Deed.{change_of}
use Rattle.feed_client.specs.Taking.{ask_lines}
use Rattle.feed_client.proofs.listing.lines_of.Given as goal

-- the lines of the bodies so far
abbrev pub invariant-loop-body : goal.invariant-loop-body
invariant-loop-body l = string_bytes l.text ≡ ask_lines (map change_of (take l.body-index l.bodies))
