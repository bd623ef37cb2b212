-- What the values of a command's arguments say, over the rows that clap matched.
use Rattle.std.specs.Prelude.{◌≡◌, ◌≤◌, ◌<◌, ◌==◌, ℕ, Bool, true, false, List, [], Option, None, Some, codes, length}
use Rattle.std.specs.Prelude.{filter, map, not, unwrap_or}
use Rattle.std.specs.Borrow.{Bor}
use Rattle.std.specs.List.{AllZip, position_or_len, before_first, after_first}
use Rattle.std.specs.Str.Parse.{IsNumeral, digits_value, without_leading_plus}
use Rattle.command_tree.specs.Matching.{Row, all_of, first_of}
use Rattle.site_address.specs.Address.{has_slash}
use Rattle.site_address.specs.Host.{IsShort, NamesHostPort}
use Rattle.site_address.specs.Peer.{NamesPeer}
use Rattle.command_line.specs.declared.asked.PageAddress.{PageAddress}
use Rattle.command_line.specs.declared.asked.PageAddress.TheVariants.{Path, Port}
use Rattle.site_address.specs.declared.host.HostPort.{HostPort}
use Rattle.site_address.specs.declared.peer.PeerAddress.{PeerAddress}

-- an answer that is so, or none where nothing is
abbrev pub Finds : {X : Type 0} → (X → Type 0) → Option X → Type 0
Finds {X} IsSo None = (other : X) → ¬ IsSo other
Finds IsSo (Some answer) = IsSo answer

-- the argument has this value
abbrev pub HasArgument : List Row → List ℕ → List ℕ → Type 0
HasArgument rows argument value = first_of argument rows ≡ Some value

-- the text writes the number in decimal, which is from the least to the greatest
abbrev pub Writes : ℕ → ℕ → List ℕ → ℕ → Type 0
Writes least most text number =
    IsNumeral 10 (without_leading_plus text) × (number ≡ digits_value 10 (without_leading_plus text))
    × (least ≤ number) × (number ≤ most)

-- the argument's value is this number
abbrev pub GivesNumber : List Row → List ℕ → ℕ → ℕ → ℕ → Type 0
GivesNumber rows argument least most number =
    (text : List ℕ) × HasArgument rows argument text × Writes least most text number

-- the same of an option that may be left out
abbrev pub GivesAny : List Row → List ℕ → ℕ → ℕ → Option ℕ → Type 0
GivesAny rows option least most None = first_of option rows ≡ None
GivesAny rows option least most (Some number) = GivesNumber rows option least most number

-- the argument's values are these numbers, one after the other
abbrev pub GivesNumbers : List Row → List ℕ → ℕ → ℕ → List ℕ → Type 0
GivesNumbers rows argument least most = AllZip (Writes least most) (unwrap_or (all_of argument rows) [])

-- the argument's values are these texts, one after the other
abbrev pub GivesTexts : List Row → List ℕ → List (List ℕ) → Type 0
GivesTexts rows argument texts = texts ≡ unwrap_or (all_of argument rows) []

-- the argument's values name these addresses, one after the other
abbrev pub GivesPeers : List Row → List ℕ → List PeerAddress → Type 0
GivesPeers rows argument = AllZip NamesPeer (unwrap_or (all_of argument rows) [])

-- the option's value names this address, if it isn't left out
abbrev pub GivesAnyPeer : List Row → List ℕ → Option PeerAddress → Type 0
GivesAnyPeer rows option None = first_of option rows ≡ None
GivesAnyPeer rows option (Some peer) = (word : List ℕ) × HasArgument rows option word × NamesPeer word peer

-- the word names where a site shows itself: a path has a slash, a port has none; 0 is a port that is free
abbrev pub NamesPage : List ℕ → PageAddress → Type 0
NamesPage word (Port port) = (has_slash word ≡ false) × IsShort word port
NamesPage word (Path path) = (has_slash word ≡ true) × (path.now ≡ word)

-- the option's value names where a site shows itself, if it isn't left out
abbrev pub GivesAnyPage : List Row → List ℕ → Option PageAddress → Type 0
GivesAnyPage rows option None = first_of option rows ≡ None
GivesAnyPage rows option (Some page) = (word : List ℕ) × HasArgument rows option word × NamesPage word page

-- those of the option's values that are paths, as they have a slash, are these
abbrev pub GivesPaths : List Row → List ℕ → List (Bor (List ℕ)) → Type 0
GivesPaths rows option paths = map (λ path. path.now) paths ≡ filter has_slash (unwrap_or (all_of option rows) [])

-- the others name these hosts and ports, one after the other
abbrev pub GivesHosts : List Row → List ℕ → List HostPort → Type 0
GivesHosts rows option = AllZip NamesHostPort (filter (λ word. not (has_slash word)) (unwrap_or (all_of option rows) []))

-- a text names an item: the number of a change; or that, a comma and the number of a patch set
abbrev pub is_comma : ℕ → Bool
is_comma byte = byte == 44

abbrev pub ItemIsNamed : List ℕ → ℕ → Option ℕ → Type 0
ItemIsNamed text change None = (position_or_len is_comma text ≡ length text) × Writes 0 4294967295 text change
ItemIsNamed text change (Some set) =
    (position_or_len is_comma text < length text) × Writes 0 4294967295 (before_first is_comma text) change
    × Writes 0 4294967295 (after_first is_comma text) set

-- a text names a site with a start: their numbers with a comma between
abbrev pub NamesRow : List ℕ → ℕ × ℕ → Type 0
NamesRow text row =
    (position_or_len is_comma text < length text) × Writes 0 65535 (before_first is_comma text) row.0
    × Writes 0 4294967295 (after_first is_comma text) row.1

-- the option's values name these sites with starts, one after the other
abbrev pub GivesRows : List Row → List ℕ → List (ℕ × ℕ) → Type 0
GivesRows rows option = AllZip NamesRow (unwrap_or (all_of option rows) [])

-- the argument names this item
abbrev pub GivesItemAt : List Row → List ℕ → ℕ → Option ℕ → Type 0
GivesItemAt rows argument change set = (text : List ℕ) × HasArgument rows argument text × ItemIsNamed text change set

abbrev pub GivesItem : List Row → ℕ → Option ℕ → Type 0
GivesItem rows change set = GivesItemAt rows (codes "CHANGE[,SET]") change set

-- the same of an option that may be left out
abbrev pub GivesAnyItem : List Row → Option (ℕ × Option ℕ) → Type 0
GivesAnyItem rows None = first_of (codes "item") rows ≡ None
GivesAnyItem rows (Some item) = GivesItemAt rows (codes "item") item.0 item.1
