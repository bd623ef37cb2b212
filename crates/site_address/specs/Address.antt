-- Where a site answers sessions: a port of this machine, or a Unix socket (unix(7)), and the words that name one.
use Rattle.std.specs.Prelude.{◌≡◌, ◌≤◌, ◌==◌, ℕ, Bool, true, false, List, decimal}
use Rattle.std.specs.List.{list_any}
use Rattle.std.specs.Str.Parse.{IsNumeral, digits_value, without_leading_plus}
use Rattle.site_address.specs.declared.address.Address.{Address}
use Rattle.site_address.specs.declared.address.Address.TheVariants.{Path, Port}

-- the word has a slash
abbrev pub has_slash : List ℕ → Bool
has_slash word = list_any (λ byte. byte == 47) word

-- the word is a port in decimal
pub record IsPort (word : List ℕ) (port : ℕ) : Type 0 where
  pub numeral : IsNumeral 10 (without_leading_plus word)
  pub value : port ≡ digits_value 10 (without_leading_plus word)
  pub least : 1 ≤ port
  pub most : port ≤ 65535

-- the word names the address: a path has a slash, a port has none
abbrev pub NamesAddress : List ℕ → Address → Type 0
NamesAddress word (Port port) = (has_slash word ≡ false) × IsPort word port
NamesAddress word (Path path) = (has_slash word ≡ true) × (path.now ≡ word)

-- the address as a word
abbrev pub address_text : Address → List ℕ
address_text (Port port) = decimal port
address_text (Path path) = path.now
