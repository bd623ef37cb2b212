use Rattle.std.proofs.Common.{◌≡◌, ◌+◌, ◌++◌, length}
use Rattle.std.specs.Prelude.{string_bytes}
use Rattle.std.specs.Option.{option_map}
use Rattle.gerrit_events.specs.Messages.{ended, fitting, footers_of}
use Rattle.gerrit_events.proofs.Messages.{footers_left, left_length}
use Rattle.gerrit_events.proofs.message.first_footers.Given as goal

-- what was kept, and what is to be kept of what is left; and how much room that needs
abbrev pub invariant-loop-rest : goal.invariant-loop-rest
invariant-loop-rest l =
    let left = footers_left (option_map (λ text. text.now) l.rest) in
    record {
      kept : string_bytes l.text ++ ended (fitting l.room left) ≡ ended (fitting 65536 (footers_of l.message));
      used : l.room + length (ended (footers_of l.message)) ≡ 65536 + length (ended left);
    }

abbrev pub decreases-loop-rest : goal.decreases-loop-rest
decreases-loop-rest l = left_length (option_map (λ text. text.now) l.rest)
