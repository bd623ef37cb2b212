-- None of the keys so far has the name.
use Rattle.std.proofs.Common.{◌≢◌, All, take}
use Rattle.key_file.proofs.keys.first_named.Given as goal

abbrev pub invariant-loop-key : goal.invariant-loop-key
invariant-loop-key l = All (λ key. key.name ≢ l.name) (take l.key-index l.keys)
