-- A console: the input, the output and the files of a command, as one value. The name `-` is that of the input (POSIX).
use Rattle.std.specs.Prelude.{◌≡◌, ◌≤◌, ◌<◌, ◌+◌, ℕ, Bool, List, [], ◌∷◌, Option, None, Some, IfSome, if◌then◌else◌}
use Rattle.std.specs.Prelude.{codes, length, min, nat_eq, take}
use Rattle.std.specs.Cmp.Lexicographic.{pointwise}
use Rattle.std.specs.Io.KnownBytes.{Appends}
use Rattle.byte_ends.specs.Failures.{most_failures}
use Rattle.byte_ends.specs.declared.faults.BytesFault.{BytesFault}
use Rattle.byte_ends.specs.declared.faults.BytesFault.TheVariants.{TooLong, ReadFault, NoMemory}
use Rattle.site_address.specs.Address.{address_text}
use Rattle.site_address.specs.declared.address.Address.{Address}

-- files, by name and contents
abbrev pub Contents : Type 0
Contents = List (List ℕ × List ℕ)

-- the contents of the first file of a name, where they are known
abbrev pub file_of : Contents → List ℕ → Option (List ℕ)
file_of [] name = None
file_of (file ∷ files) name = if pointwise nat_eq file.0 name then Some file.1 else file_of files name

-- the records of running sites, by the words for their addresses, each as the text of a snapshot
abbrev pub Records : Type 0
Records = Contents

-- the record of the first site of an address, where it is known
abbrev pub record_at : Records → Address → Option (List ℕ)
record_at sites address = file_of sites (address_text address)

-- what the input has left and what was printed, where that is known; how many calls of each end failed; and which ends
pub record ConsoleState : Type 0 where
  pub left : Option (List ℕ)
  pub files : Contents
  pub sites : Records
  pub printed : Option (List ℕ)
  pub input_failed : ℕ
  pub files_failed : ℕ
  pub output_failed : ℕ
  pub ends : ℕ × ℕ × ℕ

-- a call more failed
abbrev pub one_more : ℕ → ℕ
one_more count = min (count + 1) most_failures

-- ---- reading

-- whether a name is that of the input
abbrev pub is_input : List ℕ → Bool
is_input name = pointwise nat_eq name (codes "-")

-- the contents of a name, where they are known: what the input has left, or those of the file
abbrev pub contents_of : List ℕ → ConsoleState → Option (List ℕ)
contents_of name console = if is_input name then console.left else file_of console.files name

-- once a name was read: the input is empty from then on
abbrev pub once_read : List ℕ → ConsoleState → ConsoleState
once_read name console = if is_input name then record console { left = Some [] } else console

-- the same where the reading failed
abbrev pub once_failed : List ℕ → ConsoleState → ConsoleState
once_failed name console = if is_input name
    then record console { left = Some []; input_failed = one_more console.input_failed }
    else record console { files_failed = one_more console.files_failed }

-- the bytes are all of the name's contents, and within the limit
pub record IsRead (name : List ℕ) (limit : ℕ) (old new : ConsoleState) (bytes : List ℕ) : Type 0 where
  pub whole : IfSome (contents_of name old) (λ contents. bytes ≡ contents)
  pub short : length bytes ≤ limit
  pub after : new ≡ once_read name old

-- why a name isn't read: there is more than the limit, its end failed in this call, or memory was refused
abbrev pub IsUnread : List ℕ → ℕ → ConsoleState → ConsoleState → BytesFault → Type 0
IsUnread name limit old new TooLong =
    IfSome (contents_of name old) (λ contents. limit < length contents) × (new ≡ once_read name old)
IsUnread name limit old new ReadFault = new ≡ once_failed name old
IsUnread name limit old new NoMemory = new ≡ once_read name old

-- ---- printing

-- all of the text was printed, and nothing else happened
pub record IsPrinted (text : List ℕ) (old new : ConsoleState) : Type 0 where
  pub whole : Appends old.printed new.printed text
  pub after : new ≡ record old { printed = new.printed }

-- the output failed in this call, and a proper prefix of the text was printed
pub record IsCutShort (text : List ℕ) (old new : ConsoleState) : Type 0 where
  pub count : ℕ
  pub proper : count < length text
  pub prefix : Appends old.printed new.printed (take count text)
  pub after : new ≡ record old { printed = new.printed; output_failed = one_more old.output_failed }
