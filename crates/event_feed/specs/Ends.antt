-- What is known of the ends of a feed: of its source, and of what it writes to.
use Rattle.std.specs.Prelude.{◌≡◌, ◌<◌, ◌≤◌, ℕ, List, ◌++◌, Option, Result, Ok, Err, length, take}
use Rattle.std.specs.Io.KnownBytes.{Appends, Consumes}
use Rattle.byte_ends.specs.Failures.{OneFailed}
use Rattle.line_reader.specs.Lines.{HasNoLf, endless}
use Rattle.event_feed.specs.declared.fault.FeedFault.{FeedFault}
use Rattle.event_feed.specs.declared.fault.FeedFault.TheVariants.{Dropped, ReadFault, WriteFault, NoMemory, NoSite, Ended}
use Rattle.event_feed.specs.declared.fault.FeedFault.TheVariants.{Incomplete, NoEnd, NoKey, NotAllowed, NotProved}

-- ---- what is written to

-- the bytes that it took, where they are known, and how many writes failed
pub record End : Type 0 where
  pub taken : Option (List ℕ)
  pub failed : ℕ

-- all of the text was written, and no write failed
pub record IsWritten (text : List ℕ) (old new : End) : Type 0 where
  pub whole : Appends old.taken new.taken text
  pub none_failed : new.failed ≡ old.failed

-- a proper prefix of the text was written, and then a write failed
pub record FeedIsCutShort (text : List ℕ) (old new : End) : Type 0 where
  pub count : ℕ
  pub proper : count < length text
  pub prefix : Appends old.taken new.taken (take count text)
  pub one_failed : OneFailed old.failed new.failed

-- a text is written, or cut short
abbrev pub SendsText : List ℕ → End → End → Result (Unit {0}) FeedFault → Type 0
SendsText text old new (Ok done) = IsWritten text old new
SendsText text old new (Err Dropped) = ⊥
SendsText text old new (Err ReadFault) = ⊥
SendsText text old new (Err WriteFault) = FeedIsCutShort text old new
SendsText text old new (Err NoMemory) = ⊥
SendsText text old new (Err NoSite) = ⊥
SendsText text old new (Err Ended) = ⊥
SendsText text old new (Err Incomplete) = ⊥
SendsText text old new (Err NoKey) = ⊥
SendsText text old new (Err NotProved) = ⊥
SendsText text old new (Err NotAllowed) = ⊥
SendsText text old new (Err NoEnd) = ⊥

-- ---- the source

-- the bytes that it has left, where they are known, how many reads failed, and what was read past the last line
pub record Begin : Type 0 where
  pub left : Option (List ℕ)
  pub failed : ℕ
  pub held : List ℕ

-- what was read of the source is this, no read failed, and what follows is held
pub record IsTextRead (text : List ℕ) (old new : Begin) : Type 0 where
  pub came : List ℕ
  pub consumed : Consumes old.left new.left came
  pub whole : old.held ++ came ≡ text ++ new.held
  pub none_failed : new.failed ≡ old.failed

-- these bytes were read past what was held
pub record HasCome (came : List ℕ) (source later : Begin) : Type 0 where
  pub consumed : Consumes source.left later.left came
  pub none_failed : later.failed ≡ source.failed

-- more bytes than a line may have, at least 2^64 - 1 of them, and no LF among them
pub record IsEndless (limit : ℕ) (bytes : List ℕ) : Type 0 where
  pub more : limit < length bytes
  pub long : endless ≤ length bytes
  pub plain : HasNoLf bytes
