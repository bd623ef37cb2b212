use Rattle.byte_ends.specs.BrokenLaws.{due_at_call, due_before_byte, past_is_over}
use Rattle.byte_ends.proofs.breaking.broken_fails_once.Goals as goal

pub returns : goal.returns
returns c = record { call = due_at_call; byte = due_before_byte; over = past_is_over }
