-- None of the keys so far has the ID.
use Rattle.std.proofs.Common.{◌≢◌, All, take}
use Rattle.sealed_line.specs.Keys.{id_under}
use Rattle.key_file.proofs.keys.first_with.Given as goal

abbrev pub invariant-loop-key : goal.invariant-loop-key
invariant-loop-key l = All (λ key. id_under key.secret ≢ l.id) (take l.key-index l.keys)
