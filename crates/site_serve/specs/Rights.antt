-- What stays the same of a session: its number, its rights, and the mode of its channel.
use Rattle.std.specs.Prelude.{◌≡◌, ◌+◌, ◌-◌, ◌^◌, min}
use Rattle.site_serve.specs.Outboxes.{IsRest}
use Rattle.site_serve.specs.declared.session.Session.{Session}

-- the session has the same number, the same key, last checked at the same time, the same right to send bodies, and has
-- had as many lines
abbrev pub IsSameRight : {J : Type 0} → Session J → Session J → Type 0
IsSameRight old new =
    (new.number ≡ old.number) × (new.may_take ≡ old.may_take) × (new.key ≡ old.key) × (new.key_seen ≡ old.key_seen)
    × (new.lines ≡ old.lines)

-- the same, and its channel has the same mode
abbrev pub IsSameAccess : {J : Type 0} → Session J → Session J → Type 0
IsSameAccess old new = IsSameRight old new × (new.channel.mode ≡ old.channel.mode)

-- the same, except that it has had one more line
abbrev pub HasHadLine : {J : Type 0} → Session J → Session J → Type 0
HasHadLine old new = IsSameAccess (record old { lines = min (old.lines + 1) (2 ^ 64 - 1) }) new

-- nothing is added to the answers of a session, some of which may be sent or dropped; its inbox, the number of takes
-- that wait, and its rights stay the same
abbrev pub OnlySends : {J : Type 0} → Session J → Session J → Type 0
OnlySends old new =
    IsRest old.outbox new.outbox × (new.inbox ≡ old.inbox) × (new.waiting ≡ old.waiting) × IsSameRight old new
