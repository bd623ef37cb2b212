-- The account of a running site: what its desk published and holds, and what receipts and windows have seen of that.
use Rattle.std.specs.Prelude.{◌≡◌, ◌≤◌, ◌<◌, ◌==◌, ◌&&◌, Bool, not, nat_le, ℕ, List, [], ◌∷◌, ◌++◌, Option, length}
use Rattle.std.specs.Prelude.{take}
use mathlib.Core.List.{IsPrefix}
use Rattle.logbook.specs.Pages.{Book}
use Rattle.review_ops.specs.Deed.{Deed, kept_deed}
use Rattle.review_ops.specs.Fault.{IsFirstBodyFault}
use Rattle.review_ops.specs.Good.{IsFaultless}
use Rattle.review_ops.specs.Operation.{Operation}
use Rattle.review_ops.specs.Timestamp.{Timestamp}
use Rattle.replica_core.specs.Clock.{next_of, IsSpent}
use Rattle.replica_core.specs.Journal.{all_arrived, has}
use Rattle.site_shared.specs.Publishes.{arrive}
use Rattle.site_shared.specs.declared.fault.DeskFault.{DeskFault}
use Rattle.site_shared.specs.declared.fault.DeskFault.TheVariants.{ClockSpent, BadBody, NoMemory}

-- which opening it is; what was published, the opening's journal first; what is held, to be published next; and the
-- site and the start of what is taken in
pub record Account : Type 0 where
  pub book : Book
  pub published : List (List Operation)
  pub held : List Operation
  pub site : ℕ
  pub start : ℕ

-- what a receipt shows: the publishes of an opening up to its own, and the stamp of what was taken in
pub record Extent : Type 0 where
  pub book : Book
  pub published : List (List Operation)
  pub site : ℕ
  pub start : ℕ
  pub stamp : Option Timestamp

-- what a window has seen and learnt of the publishes of an opening
pub record Outlook : Type 0 where
  pub book : Book
  pub seen : List (List Operation)
  pub site : ℕ
  pub start : ℕ

-- the opening, the site and the start stay the same
pub record IsSameOpening (old new : Account) : Type 0 where
  pub book : new.book ≡ old.book
  pub site : new.site ≡ old.site
  pub start : new.start ≡ old.start

-- all that was published or is held
abbrev pub record_of : Account → List Operation
record_of account = all_arrived (arrive account.published) account.held

-- a stamp is left for the site
abbrev pub HasStamp : Account → Type 0
HasStamp account = ¬ IsSpent (record_of account) account.site account.start

-- the stamp above all that was published or is held
abbrev pub next_stamp : Account → Timestamp
next_stamp account = next_of (record_of account) account.site account.start

-- the operation of a deed, as it is kept, under that stamp
abbrev pub next_operation : Account → Deed → Operation
next_operation account deed = record { stamp = next_stamp account; deed = kept_deed deed }

-- the account that holds these, too
abbrev pub holding : Account → List Operation → Account
holding account ops = record account { held = account.held ++ ops }

-- the account once what is held was published, at once
abbrev pub flushing : Account → Account
flushing account = record account { published = account.published ++ account.held ∷ []; held = [] }

-- the receipt for all that the account has published
abbrev pub receipt_of : Account → Option Timestamp → Extent
receipt_of account stamp = record {
  book = account.book;
  published = account.published;
  site = account.site;
  start = account.start;
  stamp = stamp;
}

-- a window that has seen all that the account has published
abbrev pub watching : Account → Outlook
watching account = record { book = account.book; seen = account.published; site = account.site; start = account.start }

-- the window has seen and learnt no less than before, of the same opening
pub record GoesOn (old new : Outlook) : Type 0 where
  pub book : new.book ≡ old.book
  pub site : new.site ≡ old.site
  pub start : new.start ≡ old.start
  pub seen : IsPrefix old.seen new.seen

-- the receipt has the window's own site and start
abbrev pub BearsOwn : Outlook → Extent → Type 0
BearsOwn window extent = (extent.site ≡ window.site) × (extent.start ≡ window.start)

-- the first so many of these are held, and no more
pub record IsPartly (old : Account) (ops : List Operation) (count : ℕ) (new : Account) : Type 0 where
  pub some : count ≤ length ops
  pub held : new ≡ holding old (take count ops)

-- an intake is refused so: no stamp is left; else the body is bad, by its first fault; else memory was refused, and
-- where the operation is held it is one that may be taken in
abbrev pub RefusesIntake : Account → Deed → DeskFault → Account → Type 0
RefusesIntake old deed ClockSpent new = IsSpent (record_of old) old.site old.start × (new ≡ old)
RefusesIntake old deed (BadBody cause) new = HasStamp old × IsFirstBodyFault cause deed × (new ≡ old)
RefusesIntake old deed (NoMemory held) new =
    (0 < held → HasStamp old × IsFaultless deed) × IsPartly old (next_operation old deed ∷ []) held new

-- operations are refused so: memory was refused, and the first so many are held
abbrev pub RefusesAll : Account → List Operation → DeskFault → Account → Type 0
RefusesAll old ops (NoMemory held) new = IsPartly old ops held new
RefusesAll old ops fault new = ⊥

-- whether an operation has a stamp of this site under this start or a later one
abbrev pub is_used : ℕ → ℕ → Operation → Bool
is_used site start op = op.stamp.site == site && nat_le start op.stamp.start

-- whether it has such a stamp, though the journal hasn't got it: another process takes in as this site
abbrev pub is_foreign : ℕ → ℕ → List Operation → Operation → Bool
is_foreign site start journal op = is_used site start op && not (has journal op)
