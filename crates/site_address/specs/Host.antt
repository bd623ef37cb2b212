-- A host and a port, and the words that name them: `HOST:PORT`, or `[V6]:PORT` with an address of IPv6 (RFC 3986,
-- 3.2.2).
use Rattle.std.specs.Prelude.{◌≡◌, ◌⊎◌, ◌<◌, ◌≤◌, ◌==◌, ◌&&◌, ◌||◌, nat_le, ℕ, Bool, true, List, [], ◌∷◌, ◌++◌}
use Rattle.std.specs.Prelude.{decimal, length, if◌then◌else◌}
use Rattle.std.specs.List.{list_all, list_any}
use Rattle.std.specs.Str.Parse.{IsNumeral, digits_value, without_leading_plus}
use Rattle.site_address.specs.declared.host.HostPort.{HostPort}

-- a letter, a digit, `-`, `.` or `_`
abbrev pub is_plain_byte : ℕ → Bool
is_plain_byte b = (nat_le 48 b && nat_le b 57) || (nat_le 65 b && nat_le b 90) || (nat_le 97 b && nat_le b 122)
    || (b == 45) || (b == 46) || (b == 95)

-- a hex digit, a colon or a dot
abbrev pub is_v6_byte : ℕ → Bool
is_v6_byte b = (nat_le 48 b && nat_le b 57) || (nat_le 65 b && nat_le b 70) || (nat_le 97 b && nat_le b 102)
    || (b == 58) || (b == 46)

abbrev pub has_colon : List ℕ → Bool
has_colon text = list_any (λ byte. byte == 58) text

-- a name of a host, or an address of IPv4
pub record IsHost (host : List ℕ) : Type 0 where
  pub some : 0 < length host
  pub plain : list_all is_plain_byte host ≡ true

-- written as an address of IPv6
pub record IsV6 (host : List ℕ) : Type 0 where
  pub colon : has_colon host ≡ true
  pub plain : list_all is_v6_byte host ≡ true

-- the word is a number of 16 bits in decimal
pub record IsShort (word : List ℕ) (number : ℕ) : Type 0 where
  pub numeral : IsNumeral 10 (without_leading_plus word)
  pub value : number ≡ digits_value 10 (without_leading_plus word)
  pub most : number ≤ 65535

-- the word is `HOST:PORT`
pub record NamesPlainly (word : List ℕ) (at : HostPort) : Type 0 where
  pub host : IsHost at.host.now
  pub port_word : List ℕ
  pub text : word ≡ at.host.now ++ 58 ∷ port_word
  pub port : IsShort port_word at.port

-- the word is `[V6]:PORT`
pub record NamesInBrackets (word : List ℕ) (at : HostPort) : Type 0 where
  pub host : IsV6 at.host.now
  pub port_word : List ℕ
  pub text : word ≡ 91 ∷ at.host.now ++ 93 ∷ 58 ∷ port_word
  pub port : IsShort port_word at.port

-- the word names the host and the port
abbrev pub NamesHostPort : List ℕ → HostPort → Type 0
NamesHostPort word at = NamesPlainly word at ⊎ NamesInBrackets word at

-- a host as a word names it, one with a colon in brackets
abbrev pub host_text : List ℕ → List ℕ
host_text host = if has_colon host then 91 ∷ host ++ 93 ∷ [] else host

-- the host and the port as a word
abbrev pub host_port_text : HostPort → List ℕ
host_port_text at = host_text at.host.now ++ 58 ∷ decimal at.port
