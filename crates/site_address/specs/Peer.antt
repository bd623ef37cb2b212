-- Where a peer is reached, and the words that name that: an address on this machine, or `NAME@HOST:PORT` with the name
-- of a key.
use Rattle.std.specs.Prelude.{◌≡◌, ◌<◌, ◌≤◌, ◌==◌, ◌&&◌, ℕ, Bool, true, false, not, List, ◌∷◌, ◌++◌, length}
use Rattle.std.specs.List.{list_all, list_any}
use Rattle.site_address.specs.Address.{NamesAddress, address_text, has_slash}
use Rattle.site_address.specs.Host.{NamesHostPort, host_port_text, is_plain_byte}
use Rattle.site_address.specs.declared.host.HostPort.{HostPort}
use Rattle.site_address.specs.declared.peer.PeerAddress.{PeerAddress}
use Rattle.site_address.specs.declared.peer.PeerAddress.TheVariants.{Here, There}

-- the word has an `@` and no slash, as those that name an address on another machine
abbrev pub is_there : List ℕ → Bool
is_there word = not (has_slash word) && list_any (λ byte. byte == 64) word

-- the name of a key
pub record IsName (name : List ℕ) : Type 0 where
  pub some : 0 < length name
  pub few : length name ≤ 64
  pub plain : list_all is_plain_byte name ≡ true

-- the word is the name of a key, an `@`, and a host with a port to connect to
pub record NamesThere (word key : List ℕ) (at : HostPort) : Type 0 where
  pub name : IsName key
  pub rest : List ℕ
  pub text : word ≡ key ++ 64 ∷ rest
  pub place : NamesHostPort rest at
  pub least : 1 ≤ at.port

-- the word names the address
abbrev pub NamesPeer : List ℕ → PeerAddress → Type 0
NamesPeer word (Here address) = NamesAddress word address
NamesPeer word (There key at) = NamesThere word key.now at

-- the address is on another machine
abbrev pub is_elsewhere : PeerAddress → Bool
is_elsewhere (Here address) = false
is_elsewhere (There key at) = true

-- the address as a word
abbrev pub peer_text : PeerAddress → List ℕ
peer_text (Here address) = address_text address
peer_text (There key at) = key.now ++ 64 ∷ host_port_text at
