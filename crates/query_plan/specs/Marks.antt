-- What is kept of a change: whether it waits, and when it rests. Times are seconds.
use Rattle.std.specs.Prelude.{ℕ, Bool, true, false, ◌+◌, ◌-◌, ◌^◌, ◌==◌, ◌||◌, ◌&&◌, nat_lt, Option, Some, None, min}
use Rattle.std.specs.Prelude.{if◌then◌else◌}
use Rattle.query_plan.specs.declared.marks.Marks.{Marks}

-- of a change of which nothing came
abbrev pub unmarked : Marks
unmarked = record { waits = false; is_known = false; rests_until = 0; slow_until = 0; failed_in = None; repeats = 0 }

-- it had an event: it is known, and rests no longer than an event lets it
abbrev pub with_event : Marks → Marks
with_event old = record old { is_known = true; rests_until = 0 }

abbrev pub as_waiting : Marks → Marks
as_waiting old = record old { waits = true }

-- an answer listed it: it neither waits nor rests; a query of all changes makes it known
abbrev pub as_listed : Bool → Marks → Marks
as_listed all old = record unmarked { is_known = old.is_known || all }

abbrev pub as_unlisted : ℕ → Marks → Marks
as_unlisted until old = record old { waits = false; rests_until = until }

abbrev pub as_repeated : Marks → Marks
as_repeated old = record old { repeats = min (old.repeats + 1) (2 ^ 8 - 1) }

-- its own query took too long: it rests until a time, and waits on if it is known
abbrev pub as_slow : ℕ → Marks → Marks
as_slow until old = record old { waits = old.waits && old.is_known; slow_until = until; repeats = 0 }

-- its own query failed in a round: it rests for the rest of that; if it is known, it waits on, and rests until a time,
-- unless it has an event
abbrev pub as_failed : ℕ → ℕ → Marks → Marks
as_failed round until old = record old {
  waits = old.waits && old.is_known;
  rests_until = if old.is_known then until else old.rests_until;
  failed_in = Some round;
  repeats = 0;
}

abbrev pub is_in : Option ℕ → ℕ → Bool
is_in (Some failed) round = failed == round
is_in None round = false

-- it isn't queried by its number: until a time, or in the round in which its own query failed
abbrev pub rests : ℕ → ℕ → Marks → Bool
rests now round marks = nat_lt now marks.rests_until || nat_lt now marks.slow_until || is_in marks.failed_in round
