-- Where words are cut that name hosts and keys.
use Rattle.std.proofs.Common.{◌≡◌, ◌<◌, ◌≤◌, ◌++◌, ◌∷◌, ◌∙◌, [], ℕ, Bool, true, false, List, Option, None, Some, MatchOption, IfSome, Bor, inl, inr}
use Rattle.std.proofs.Common.{refl, sym, ap, arith, subst, drop, get_or, length, lit<}
use Rattle.std.specs.Prelude.{◌&&◌}
use Rattle.std.specs.List.{list_all}
use Rattle.std.specs.Str.Parse.{digits_value, without_leading_plus}
use Rattle.std.proofs.lemmas.Bool.{false≢true}
use Rattle.std.proofs.lemmas.List.Folds.{list_all_at}
use Rattle.std.proofs.lemmas.Str.Pattern.{IsSplitOnceResult, split_after, split_parts}
use Rattle.site_address.specs.Host.{IsHost, IsShort, IsV6, NamesHostPort, NamesInBrackets, NamesPlainly, is_plain_byte}
use Rattle.site_address.specs.Host.{is_v6_byte}
use Rattle.site_address.specs.Peer.{NamesThere}
use Rattle.site_address.specs.declared.host.HostPort.{HostPort}

-- ---- what passes a test of each byte

-- a byte that the test refuses is nowhere in it
pub free_of : (test : ℕ → Bool) (byte : ℕ) (bytes : List ℕ) → test byte ≡ false → list_all test bytes ≡ true
    → (i : ℕ) → i < length bytes → ¬ (get_or bytes i 0 ≡ byte)
free_of test byte bytes fails all i within is =
    let bad : list_all test bytes ≡ false = list_all_at test bytes i 0 within (ap test is ∙ fails) in
    let both : true ≡ false = sym all ∙ bad in cc

both_true : (p q : Bool) → (p && q) ≡ true → (p ≡ true) × (q ≡ true)
both_true true q e = (refl, e)
both_true false q e = absurd (false≢true e)

-- so two of them that such a byte ends are alike where the wholes are
pub same_front : (test : ℕ → Bool) (byte : ℕ) (one after other beyond : List ℕ) → test byte ≡ false
    → list_all test one ≡ true → list_all test other ≡ true → one ++ byte ∷ after ≡ other ++ byte ∷ beyond
    → (one ≡ other) × (after ≡ beyond)
same_front test byte [] after [] beyond fails all each same = (refl, ap (drop 1) same)
same_front test byte [] after (b ∷ other) beyond fails all each same =
    let is : byte ≡ b = ap (λ l. get_or l 0 0) same in
    let bad : false ≡ true = sym fails ∙ ap test is ∙ (both_true (test b) (list_all test other) each).0 in cc
same_front test byte (b ∷ one) after [] beyond fails all each same =
    let is : b ≡ byte = ap (λ l. get_or l 0 0) same in
    let bad : true ≡ false = sym (both_true (test b) (list_all test one) all).0 ∙ ap test is ∙ fails in cc
same_front test byte (b ∷ one) after (d ∷ other) beyond fails all each same =
    let rest = same_front test byte one after other beyond fails (both_true (test b) (list_all test one) all).1
    (both_true (test d) (list_all test other) each).1 (ap (drop 1) same) in
    let is : b ≡ d = ap (λ l. get_or l 0 0) same in
    (ap (λ x. x ∷ one) is ∙ ap (λ l. d ∷ l) rest.0, rest.1)

-- a host with a port, or none where the word writes no port
abbrev pub HasPort : Bor (List ℕ) → List ℕ → Option HostPort → Type 0
HasPort host word result = MatchOption result ((number : ℕ) → ¬ IsShort word number)
    (λ at. (at.host ≡ host) × IsShort word at.port)

host_of : (host : Bor (List ℕ)) (at : HostPort) → at.host ≡ host → host.now ≡ at.host.now
host_of host at same = ap (λ (h : Bor (List ℕ)). h.now) (sym same)

-- ---- `HOST:PORT`

pub plain_cut : (word : List ℕ) (at : HostPort) (cut : Option (Bor (List ℕ) × Bor (List ℕ)))
    → IsSplitOnceResult 58 word cut → (named : NamesPlainly word at)
    → MatchOption cut ⊥ (λ parts. (parts.0.now ≡ at.host.now) × (parts.1.now ≡ named.port_word))
plain_cut word at None cuts named =
    split_after 58 word at.host.now named.port_word None cuts (lit< tt) named.text (free_of is_plain_byte 58 at.host.now refl named.host.plain)
plain_cut word at (Some parts) cuts named =
    split_after 58 word at.host.now named.port_word (Some parts) cuts (lit< tt) named.text (free_of is_plain_byte 58 at.host.now refl named.host.plain)

pub plain_found : (word : List ℕ) (host port : Bor (List ℕ)) (result : Option HostPort)
    → IsSplitOnceResult 58 word (Some (host, port)) → IsHost host.now → HasPort host port.now result
    → MatchOption result ((at : HostPort) → ¬ NamesPlainly word at) (NamesPlainly word)
plain_found word host port None cuts good none = λ at named.
    let parts = plain_cut word at (Some (host, port)) cuts named in
    none at.port (subst (λ w. IsShort w at.port) (sym parts.1) named.port)
plain_found word host port (Some at) cuts good found = record {
  host = subst IsHost (host_of host at found.0) good;
  port_word = port.now;
  text = (split_parts 58 word (Some (host, port)) cuts (lit< tt)).0 ∙ ap (λ h. h ++ 58 ∷ port.now) (host_of host at found.0);
  port = found.1;
}

-- ---- `[V6]:PORT`

pub bracket_cut : (word inner : List ℕ) (at : HostPort) (cut : Option (Bor (List ℕ) × Bor (List ℕ)))
    → word ≡ 91 ∷ inner → IsSplitOnceResult 93 inner cut → (named : NamesInBrackets word at)
    → MatchOption cut ⊥ (λ parts. (parts.0.now ≡ at.host.now) × (parts.1.now ≡ 58 ∷ named.port_word))
bracket_cut word inner at None opens cuts named =
    split_after 93 inner at.host.now (58 ∷ named.port_word) None cuts (lit< tt) (ap (drop 1) (sym opens ∙ named.text)) (free_of is_v6_byte 93 at.host.now refl named.host.plain)
bracket_cut word inner at (Some parts) opens cuts named =
    split_after 93 inner at.host.now (58 ∷ named.port_word) (Some parts) cuts (lit< tt) (ap (drop 1) (sym opens ∙ named.text)) (free_of is_v6_byte 93 at.host.now refl named.host.plain)

pub bracket_found : (word inner : List ℕ) (host rest port : Bor (List ℕ)) (result : Option HostPort) → word ≡ 91 ∷ inner
    → IsSplitOnceResult 93 inner (Some (host, rest)) → rest.now ≡ 58 ∷ port.now → IsV6 host.now
    → HasPort host port.now result
    → MatchOption result ((at : HostPort) → ¬ NamesInBrackets word at) (NamesInBrackets word)
bracket_found word inner host rest port None opens cuts colon good none = λ at named.
    let parts = bracket_cut word inner at (Some (host, rest)) opens cuts named in
    let same : port.now ≡ named.port_word = ap (drop 1) (sym colon ∙ parts.1) in
    none at.port (subst (λ w. IsShort w at.port) (sym same) named.port)
bracket_found word inner host rest port (Some at) opens cuts colon good found =
    let parts : inner ≡ host.now ++ 93 ∷ rest.now = (split_parts 93 inner (Some (host, rest)) cuts (lit< tt)).0 in
    let same : host.now ≡ at.host.now = host_of host at found.0 in
    record {
      host = subst IsV6 same good;
      port_word = port.now;
      text = opens ∙ ap (λ l. 91 ∷ l) (parts ∙ ap (λ r. host.now ++ 93 ∷ r) colon ∙ ap (λ h. h ++ 93 ∷ 58 ∷ port.now) same);
      port = found.1;
    }

-- ---- a word names one host and one port

same_number : (one other : List ℕ) (m n : ℕ) → one ≡ other → IsShort one m → IsShort other n → m ≡ n
same_number one other m n same p q =
    p.value ∙ ap (λ w. digits_value 10 (without_leading_plus w)) same ∙ sym q.value

same_plainly : (word : List ℕ) (at other : HostPort) (one : NamesPlainly word at) (two : NamesPlainly word other)
    → (at.host.now ≡ other.host.now) × (at.port ≡ other.port)
same_plainly word at other one two =
    let cut = same_front is_plain_byte 58 at.host.now one.port_word other.host.now two.port_word refl one.host.plain two.host.plain
    (sym one.text ∙ two.text) in
    (cut.0, same_number one.port_word two.port_word at.port other.port cut.1 one.port two.port)

same_in_brackets : (word : List ℕ) (at other : HostPort) (one : NamesInBrackets word at)
    (two : NamesInBrackets word other) → (at.host.now ≡ other.host.now) × (at.port ≡ other.port)
same_in_brackets word at other one two =
    let cut = same_front is_v6_byte 93 at.host.now (58 ∷ one.port_word) other.host.now (58 ∷ two.port_word) refl
    one.host.plain two.host.plain (ap (drop 1) (sym one.text ∙ two.text)) in
    (cut.0, same_number one.port_word two.port_word at.port other.port (ap (drop 1) cut.1) one.port two.port)

no_bracket : (host rest after : List ℕ) → IsHost host → ¬ (host ++ 58 ∷ rest ≡ 91 ∷ after)
no_bracket [] rest after good same = let none = good.some in omega (arith, none)
no_bracket (b ∷ host) rest after good same =
    let is : b ≡ 91 = ap (λ l. get_or l 0 0) same in
    let bad : true ≡ false = sym (both_true (is_plain_byte b) (list_all is_plain_byte host) good.plain).0 ∙ ap is_plain_byte is in cc

not_both : (word : List ℕ) (at other : HostPort) → NamesPlainly word at → ¬ NamesInBrackets word other
not_both word at other one two =
    no_bracket at.host.now one.port_word (other.host.now ++ 93 ∷ 58 ∷ two.port_word) one.host (sym one.text ∙ two.text)

pub same_place : (word : List ℕ) (at other : HostPort) → NamesHostPort word at → NamesHostPort word other
    → (at.host.now ≡ other.host.now) × (at.port ≡ other.port)
same_place word at other (inl one) (inl two) = same_plainly word at other one two
same_place word at other (inl one) (inr two) = absurd (not_both word at other one two)
same_place word at other (inr one) (inl two) = absurd (not_both word other at two one)
same_place word at other (inr one) (inr two) = same_in_brackets word at other one two

not_either : (word : List ℕ) (at : HostPort) → ¬ NamesPlainly word at → ¬ NamesInBrackets word at
    → ¬ NamesHostPort word at
not_either word at lacks none (inl one) = lacks one
not_either word at lacks none (inr one) = none one

pub neither : (word : List ℕ) (result : Option HostPort) → ((at : HostPort) → ¬ NamesPlainly word at)
    → MatchOption result ((at : HostPort) → ¬ NamesInBrackets word at) (NamesInBrackets word)
    → MatchOption result ((at : HostPort) → ¬ NamesHostPort word at) (NamesHostPort word)
neither word None lacks none = λ at. not_either word at (lacks at) (none at)
neither word (Some at) lacks found = inr found

-- ---- `NAME@HOST:PORT`

pub key_cut : (word key : List ℕ) (at : HostPort) (cut : Option (Bor (List ℕ) × Bor (List ℕ)))
    → IsSplitOnceResult 64 word cut → (named : NamesThere word key at)
    → MatchOption cut ⊥ (λ parts. (parts.0.now ≡ key) × (parts.1.now ≡ named.rest))
key_cut word key at None cuts named =
    split_after 64 word key named.rest None cuts (lit< tt) named.text (free_of is_plain_byte 64 key refl named.name.plain)
key_cut word key at (Some parts) cuts named =
    split_after 64 word key named.rest (Some parts) cuts (lit< tt) named.text (free_of is_plain_byte 64 key refl named.name.plain)

pub no_port : (word : List ℕ) (name rest : Bor (List ℕ)) (result : Option HostPort)
    → IsSplitOnceResult 64 word (Some (name, rest))
    → MatchOption result ((at : HostPort) → ¬ NamesHostPort rest.now at) (NamesHostPort rest.now)
    → IfSome result (λ at. at.port ≤ 0) → (key : List ℕ) (at : HostPort) → ¬ NamesThere word key at
no_port word name rest None cuts none zero key at named =
    let parts = key_cut word key at (Some (name, rest)) cuts named in
    none at (subst (λ w. NamesHostPort w at) (sym parts.1) named.place)
no_port word name rest (Some found) cuts names zero key at named =
    let parts = key_cut word key at (Some (name, rest)) cuts named in
    let same = (same_place rest.now found at names (subst (λ w. NamesHostPort w at) (sym parts.1) named.place)).1 in
    let least = named.least in omega (arith, zero, same, least)
