-- What is written of an address names it again.
use Rattle.std.proofs.Common.{◌≡◌, ◌<◌, ◌≤◌, ◌++◌, ◌∷◌, ◌∙◌, [], ℕ, Bool, true, false, List, Option, None, Some, Bor}
use Rattle.std.proofs.Common.{IfSome, MatchOption, if◌then◌else◌, decimal, cond, drop, refl, sym, ap, arith, subst, get_or, length, lit<, suc, inl, inr, append_assoc}
use Rattle.std.specs.Prelude.{◌==◌, slice_index}
use Rattle.std.specs.List.{list_any}
use Rattle.std.specs.Str.Parse.{AllDigits, IsNumeral, digits_value, without_leading_plus}
use Rattle.std.specs.Int.{IsInRange}
use Rattle.std.proofs.lemmas.Bool.{eqb-true, ne_eqb}
use Rattle.std.proofs.lemmas.List.Folds.{list_any-append}
use Rattle.std.proofs.lemmas.Fmt.{decimal_is_IsNumeral}
use Rattle.std.proofs.lemmas.Str.Parse.{not_in_digits, numerals_by_value, tells_digits}
use Rattle.site_address.specs.Address.{NamesAddress, address_text, has_slash}
use Rattle.site_address.specs.Host.{IsHost, IsShort, IsV6, NamesHostPort, NamesInBrackets, NamesPlainly, has_colon}
use Rattle.site_address.specs.Host.{host_port_text, is_plain_byte, is_v6_byte}
use Rattle.site_address.specs.Peer.{NamesPeer, NamesThere, is_elsewhere, is_there, peer_text}
use Rattle.site_address.specs.declared.address.Address.{Address}
use Rattle.site_address.specs.declared.address.Address.TheVariants.{Path, Port}
use Rattle.site_address.specs.declared.host.HostPort.{HostPort}
use Rattle.site_address.specs.declared.peer.PeerAddress.{PeerAddress}
use Rattle.site_address.specs.declared.peer.PeerAddress.TheVariants.{Here, There}
use Rattle.site_address.proofs.Cutting.{free_of}

-- ---- bytes that a text lacks

lacks_any : (byte : ℕ) (bytes : List ℕ) → ((i : ℕ) → i < length bytes → ¬ (get_or bytes i 0 ≡ byte))
    → list_any (λ b. b == byte) bytes ≡ false
lacks_any byte [] lacks = refl
lacks_any byte (b ∷ bytes) lacks =
    let first : (b == byte) ≡ false = ne_eqb b byte (lacks 0 (omega arith)) in
    rw first (lacks_any byte bytes (λ i within. lacks (suc i) (omega (arith, within))))

-- ---- numbers

digit_free : (number byte : ℕ) → number ≤ 65535 → byte < 48 → (i : ℕ) → i < length (decimal number)
    → ¬ (get_or (decimal number) i 0 ≡ byte)
digit_free number byte most small =
    not_in_digits (numerals_by_value (AllDigits 10) tells_digits) (decimal number) byte (decimal_is_IsNumeral number (omega (arith, most))).0.1
    (λ within. omega (arith, within.0))

no_plus : (number : ℕ) → number ≤ 65535 → without_leading_plus (decimal number) ≡ decimal number
no_plus number most =
    let some = (decimal_is_IsNumeral number (omega (arith, most))).0.0 in
    let first : (slice_index (decimal number) 0 == 43) ≡ false =
    ne_eqb (slice_index (decimal number) 0) 43 (digit_free number 43 most (lit< tt) 0 some) in
    rw first refl

short_written : (number : ℕ) → number ≤ 65535 → IsShort (decimal number) number
short_written number most =
    let is = decimal_is_IsNumeral number (omega (arith, most)) in
    record {
      numeral = subst (IsNumeral 10) (sym (no_plus number most)) is.0;
      value = sym (ap (digits_value 10) (no_plus number most) ∙ is.1);
      most = most;
    }

-- ---- hosts

plain_host : (host : List ℕ) → IsHost host → has_colon host ≡ false
plain_host host good = lacks_any 58 host (free_of is_plain_byte 58 host refl good.plain)

host_written : (at : HostPort) → at.port ≤ 65535 → IsHost at.host.now → NamesPlainly (host_port_text at) at
host_written at most good = record {
  host = good;
  port_word = decimal at.port;
  text = ap (λ b. (if b then 91 ∷ at.host.now ++ 93 ∷ [] else at.host.now) ++ 58 ∷ decimal at.port) (plain_host at.host.now good);
  port = short_written at.port most;
}

bracket_written : (at : HostPort) → at.port ≤ 65535 → IsV6 at.host.now → NamesInBrackets (host_port_text at) at
bracket_written at most good = record {
  host = good;
  port_word = decimal at.port;
  text = ap (λ b. (if b then 91 ∷ at.host.now ++ 93 ∷ [] else at.host.now) ++ 58 ∷ decimal at.port) good.colon
      ∙ ap (λ l. 91 ∷ l) (append_assoc at.host.now (93 ∷ []) (58 ∷ decimal at.port));
  port = short_written at.port most;
}

place_written : (word : List ℕ) (at : HostPort) → NamesHostPort word at → NamesHostPort (host_port_text at) at
place_written word at (inl named) = inl (host_written at named.port.most named.host)
place_written word at (inr named) = inr (bracket_written at named.port.most named.host)

-- ---- addresses

address_written : (word : List ℕ) (address : Address) → NamesAddress word address
    → NamesAddress (address_text address) address
address_written word (Port port) named =
    let most = named.1.most in
    let is = short_written port most in (
      lacks_any 47 (decimal port) (digit_free port 47 most (lit< tt)),
      record { numeral = is.numeral; value = is.value; least = named.1.least; most = most },
    )
address_written word (Path path) named = (subst (λ w. has_slash w ≡ true) (sym named.1) named.0, refl)

pub written_named : (word : List ℕ) (peer : PeerAddress) → NamesPeer word peer → NamesPeer (peer_text peer) peer
written_named word (Here address) named = address_written word address named
written_named word (There key at) named = record {
  name = named.name;
  rest = host_port_text at;
  text = refl;
  place = place_written named.rest at named.place;
  least = named.least;
}

pub written_place : (word : List ℕ) (result : Option HostPort)
    → MatchOption result ((at : HostPort) → ¬ NamesHostPort word at) (NamesHostPort word)
    → IfSome result (λ at. NamesHostPort (host_port_text at) at)
written_place word None none = tt
written_place word (Some at) named = place_written word at named

-- ---- what names an address on another machine has an `@` and no slash

digits_lack : (digits : List ℕ) (byte : ℕ) → AllDigits 10 digits → ¬ IsInRange 48 57 byte
    → list_any (λ b. b == byte) digits ≡ false
digits_lack digits byte all other =
    lacks_any byte digits (not_in_digits (numerals_by_value (AllDigits 10) tells_digits) digits byte all other)

signed_lacks : (b : ℕ) (rest : List ℕ) (byte : ℕ) (plus : Bool) → (b == 43) ≡ plus
    → IsNumeral 10 (drop (cond plus 1 0) (b ∷ rest)) → ¬ IsInRange 48 57 byte → ¬ (byte ≡ 43)
    → list_any (λ c. c == byte) (b ∷ rest) ≡ false
signed_lacks b rest byte true is numeral other not_plus =
    let first : (b == byte) ≡ false = ne_eqb b byte (λ same. not_plus (sym same ∙ eqb-true b 43 is)) in
    rw first (digits_lack rest byte numeral.1 other)
signed_lacks b rest byte false is numeral other not_plus = digits_lack (b ∷ rest) byte numeral.1 other

numeral_lacks : (word : List ℕ) (byte : ℕ) → IsNumeral 10 (without_leading_plus word) → ¬ IsInRange 48 57 byte
    → ¬ (byte ≡ 43) → list_any (λ b. b == byte) word ≡ false
numeral_lacks [] byte numeral other not_plus = refl
numeral_lacks (b ∷ rest) byte numeral other not_plus = signed_lacks b rest byte (b == 43) refl numeral other not_plus

cut_lacks : (byte seam : ℕ) (front rest : List ℕ) → list_any (λ b. b == byte) front ≡ false → (seam == byte) ≡ false
    → list_any (λ b. b == byte) rest ≡ false → list_any (λ b. b == byte) (front ++ seam ∷ rest) ≡ false
cut_lacks byte seam front rest before at after =
    list_any-append (λ b. b == byte) front (seam ∷ rest) ∙ rw before (rw at after)

port_lacks : (word : List ℕ) (number : ℕ) → IsShort word number → has_slash word ≡ false
port_lacks word number is = numeral_lacks word 47 is.numeral (λ within. omega (arith, within.0)) (λ same. omega (arith, same))

place_lacks : (word : List ℕ) (at : HostPort) → NamesHostPort word at → has_slash word ≡ false
place_lacks word at (inl named) =
    ap has_slash named.text
    ∙ cut_lacks 47 58 at.host.now named.port_word (lacks_any 47 at.host.now (free_of is_plain_byte 47 at.host.now refl named.host.plain)) refl
    (port_lacks named.port_word at.port named.port)
place_lacks word at (inr named) =
    ap has_slash named.text
    ∙ cut_lacks 47 93 at.host.now (58 ∷ named.port_word) (lacks_any 47 at.host.now (free_of is_v6_byte 47 at.host.now refl named.host.plain)) refl
    (port_lacks named.port_word at.port named.port)

key_slash : (word key : List ℕ) (at : HostPort) → NamesThere word key at → has_slash word ≡ false
key_slash word key at named =
    ap has_slash named.text
    ∙ cut_lacks 47 64 key named.rest (lacks_any 47 key (free_of is_plain_byte 47 key refl named.name.plain)) refl
    (place_lacks named.rest at named.place)

key_sign : (word key : List ℕ) (at : HostPort) → NamesThere word key at → list_any (λ b. b == 64) word ≡ true
key_sign word key at named =
    ap (list_any (λ b. b == 64)) named.text ∙ list_any-append (λ b. b == 64) key (64 ∷ named.rest)
    ∙ rw (lacks_any 64 key (free_of is_plain_byte 64 key refl named.name.plain)) refl

pub told_apart : (word : List ℕ) (peer : PeerAddress) → NamesPeer word peer → is_there word ≡ is_elsewhere peer
told_apart word (Here (Port port)) named =
    rw named.0 (numeral_lacks word 64 named.1.numeral (λ within. omega (arith, within.1)) (λ same. omega (arith, same)))
told_apart word (Here (Path path)) named = rw named.0 refl
told_apart word (There key at) named = rw (key_slash word key.now at named) (key_sign word key.now at named)

-- ---- results

pub there_named : (word : List ℕ) (peer : PeerAddress) (key : Bor (List ℕ)) (at : HostPort) → peer ≡ There key at
    → NamesThere word key.now at → NamesPeer word peer
there_named word peer key at is named = subst (NamesPeer word) (sym is) named

none_named : (word : List ℕ) (peer : PeerAddress) → ((key : List ℕ) (at : HostPort) → ¬ NamesThere word key at)
    → ((address : Address) → ¬ NamesAddress word address) → ¬ NamesPeer word peer
none_named word (Here address) lacks none named = none address named
none_named word (There key at) lacks none named = lacks key.now at named

pub here_named : (word : List ℕ) (result : Option PeerAddress)
    → ((key : List ℕ) (at : HostPort) → ¬ NamesThere word key at)
    → MatchOption result ((address : Address) → ¬ NamesAddress word address)
    (λ peer. (address : Address) × (peer ≡ Here address) × NamesAddress word address)
    → MatchOption result ((peer : PeerAddress) → ¬ NamesPeer word peer) (NamesPeer word)
here_named word None lacks none = λ peer. none_named word peer lacks none
here_named word (Some peer) lacks found = subst (NamesPeer word) (sym found.1) found.2

pub told_result : (word : List ℕ) (result : Option PeerAddress)
    → MatchOption result ((peer : PeerAddress) → ¬ NamesPeer word peer) (NamesPeer word)
    → IfSome result (λ peer. (is_there word ≡ is_elsewhere peer) × NamesPeer (peer_text peer) peer)
told_result word None none = tt
told_result word (Some peer) named = (told_apart word peer named, written_named word peer named)
