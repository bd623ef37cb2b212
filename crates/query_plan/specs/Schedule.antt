-- When queries are due, and how many changes one may name: what each event of a schedule does to it. Times are seconds.
use Rattle.std.specs.Prelude.{ℕ, Bool, true, false, ◌+◌, ◌-◌, ◌*◌, ◌/◌, ◌^◌, nat_lt, Some, None, unwrap_or, min, max}
use Rattle.std.specs.Prelude.{if◌then◌else◌, ◌==◌, not, ◌&&◌}
use Rattle.query_plan.specs.declared.schedule.Settings.{Settings}
use Rattle.query_plan.specs.declared.schedule.Schedule.{Schedule}
use Rattle.query_plan.specs.declared.schedule.Query.TheVariants.{Nothing, All, Changes}

-- so many seconds later, or at the last moment that there is
abbrev pub later : ℕ → ℕ → ℕ
later now seconds = min (now + seconds) (2 ^ 64 - 1)

-- nothing was queried, and all changes are due
abbrev pub new_schedule : Settings → Schedule
new_schedule settings = record {
  settings = settings;
  waiting_due = 0;
  all_due = 0;
  all_pause = settings.pause;
  again = None;
  round = 0;
  most = 50;
  is_well = false;
  left = None;
  query = Nothing;
  began = 0;
}

-- a first change waits from now on
abbrev pub gathered : ℕ → Schedule → Schedule
gathered now old = record old { waiting_due = later now old.settings.gather }

-- all changes are queried: the next time is `every` from now, and a turn and a round begin
abbrev pub given_all : ℕ → Schedule → Schedule
given_all now old = record old {
  all_due = later now old.settings.every;
  round = later old.round 1;
  left = Some old.most;
  query = All;
  began = now;
}

-- so many changes are queried, in a turn that may query this many
abbrev pub given_changes : ℕ → ℕ → Schedule → Schedule
given_changes left count old = record old { left = Some (left - count); query = Changes }

-- a turn ends: what waits is due four seconds later, and the next turn may query twice as many
abbrev pub turn_ended : ℕ → Schedule → Schedule
turn_ended now old =
    record old { waiting_due = later now 4; most = min (min (old.most * 2) (2 ^ 64 - 1)) 50; left = None }

abbrev pub whole_changes : Schedule → Schedule
whole_changes old = record old { is_well = true; query = Nothing }

-- all changes are queried once more a minute after the first whole answer, and no sooner than the stream flowed for as
-- long as it was held; what was wanted meanwhile is due at once
abbrev pub whole_all : ℕ → Schedule → Schedule
whole_all now old =
    let again = unwrap_or old.again (later now 60) in
    let sooner = if nat_lt now again then min old.all_due again else old.all_due in
    record old {
      all_due = if old.all_due == 0 then 0 else max sooner (later now (now - old.began));
      all_pause = old.settings.pause;
      again = Some again;
      is_well = true;
      query = Nothing;
    }

-- the query of all changes failed: the pause before the next one doubles
abbrev pub paused_all : ℕ → Schedule → Schedule
paused_all now old = record old {
  all_due = if old.all_due == 0 then 0 else later now old.all_pause;
  all_pause = min (min (old.all_pause * 2) (2 ^ 64 - 1)) old.settings.every;
  query = Nothing;
}

-- no answer came to a query of changes: the turn ends, and after a pause they are queried again
abbrev pub lost_changes : ℕ → Schedule → Schedule
lost_changes now old = record old { waiting_due = later now old.settings.pause; left = None; query = Nothing }

-- a query of so many changes failed: the next turn queries half as many
abbrev pub refused_changes : ℕ → ℕ → Bool → Schedule → Schedule
refused_changes now count late old =
    record (lost_changes now old) { most = count - count / 2; is_well = old.is_well && not late }

-- all changes are queried within a minute
abbrev pub brought_forward : ℕ → Schedule → Schedule
brought_forward now old = record old { all_due = min old.all_due (later now 60) }
