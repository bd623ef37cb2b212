-- When the key of a session is checked again.
use Rattle.std.specs.Prelude.{ℕ, ◌-◌, List, Option, None, Some, cond, nat_le}
use Rattle.site_serve.specs.declared.channel.Credential.{Credential}
use Rattle.site_serve.specs.declared.channel.Credential.TheVariants.{Key}

-- the key to check before the next line, given the nanoseconds of the last check and of now: the session's key after a
-- second, none before
abbrev pub due_key : Option (List ℕ) → ℕ → ℕ → Option (List ℕ)
due_key key seen now = cond (nat_le 1000000000 (now - seen)) key None

-- the key of a session with this credential: the key that it names, else the key before
abbrev pub key_by : Credential → Option (List ℕ) → Option (List ℕ)
key_by (Key greeting) key = Some greeting.id
key_by credential key = key
