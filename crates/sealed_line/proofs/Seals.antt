-- A line is the seal of one cipher at most.
use Rattle.std.proofs.Common.{◌≡◌, ◌≢◌, ℕ, ◌<◌, ◌+◌, ◌++◌, List, sym, ◌∙◌, ap, refl, arith, length, take, drop, length-append, length-drop, subst, take-append-drop}
use Rattle.std.specs.Int.{to_be_bytes, w64}
use Rattle.std.specs.Result.{result_unwrap_or}
use Rattle.base64.specs.Engines.{standard}
use Rattle.base64.specs.GeneralPurpose.{IsBytes, decode_of, encode_of}
use Rattle.base64.proofs.EngineFacts.{decode_of-encode_of}
use Rattle.keyed_digest.specs.HmacFacts.{bytes-append, bytes-hmac, length-hmac}
use Rattle.sealed_line.specs.Words.{split_alike}
use Rattle.sealed_line.specs.Sealing.{IsNoSeal, IsUndecoded, IsUnopened, Opens, Sealing, crossed, sealed, tag_of}
use Rattle.sealed_line.specs.declared.fault.SealFault.{SealFault}
use Rattle.sealed_line.specs.declared.fault.SealFault.TheVariants.{BadSeal, LongLine, Spent, NoMemory}
use Rattle.sealed_line.proofs.Crosses.{bytes-crossed_under, crossed_under_twice}

pub encoded_alike : (a b : List ℕ) → IsBytes a → IsBytes b → encode_of standard a ≡ encode_of standard b → a ≡ b
encoded_alike a b of_a of_b e =
    let left = decode_of-encode_of standard a refl of_a in
    let right = decode_of-encode_of standard b refl of_b in
    ap (λ r. result_unwrap_or r a) (sym left ∙ ap (decode_of standard) e ∙ right)

pub bytes-tagged : (s : Sealing) (cipher : List ℕ) → IsBytes cipher → IsBytes (cipher ++ tag_of s cipher)
bytes-tagged s cipher bytes =
    bytes-append cipher (tag_of s cipher) bytes (bytes-hmac s.tags (to_be_bytes w64 s.count ++ cipher))

length-tag : (s : Sealing) (cipher : List ℕ) → length (tag_of s cipher) ≡ 32
length-tag s cipher = length-hmac s.tags (to_be_bytes w64 s.count ++ cipher)

-- what a line writes is what it was sealed of
pub sealed_of : (s : Sealing) (line body cipher : List ℕ) → IsBytes body → IsBytes cipher → line ≡ encode_of standard body
    → line ≡ sealed s cipher → body ≡ cipher ++ tag_of s cipher
sealed_of s line body cipher of_body of_cipher is e =
    encoded_alike body (cipher ++ tag_of s cipher) of_body (bytes-tagged s cipher of_cipher) (sym is ∙ e)

pub no_seal_short : (s : Sealing) (line body : List ℕ) → IsBytes body → line ≡ encode_of standard body → length body < 32
    → IsNoSeal s line
no_seal_short s line body of_body is short cipher of_cipher e =
    let same = ap (λ (l : List ℕ). length l) (sealed_of s line body cipher of_body of_cipher is e) in
    let tag = length-tag s cipher in
    omega (arith, short, same, tag, length-append cipher (tag_of s cipher))

pub no_seal_tag : (s : Sealing) (line first last : List ℕ) → IsBytes (first ++ last) → line ≡ encode_of standard (first ++ last)
    → length last ≡ 32 → (last ≢ tag_of s first) → IsNoSeal s line
no_seal_tag s line first last of_body is long differs cipher of_cipher e =
    let same = sealed_of s line (first ++ last) cipher of_body of_cipher is e in
    let parts = split_alike first last cipher (tag_of s cipher) (long ∙ sym (length-tag s cipher)) same in
    differs (parts.1 ∙ ap (tag_of s) (sym parts.0))

pub opens_back : (s : Sealing) (text opened : List ℕ) → IsBytes text → Opens s (sealed s (crossed s text)) opened → opened ≡ text
opens_back s text opened bytes is =
    let of_cipher = bytes-crossed_under s.cipher s.count text bytes in
    let same = sealed_of s (sealed s (crossed s text)) (crossed s text ++ tag_of s (crossed s text)) is.cipher
    (bytes-tagged s (crossed s text) of_cipher) is.bytes refl is.is in
    let tags : length (tag_of s (crossed s text)) ≡ length (tag_of s is.cipher) =
    length-tag s (crossed s text) ∙ sym (length-tag s is.cipher) in
    let parts = split_alike (crossed s text) (tag_of s (crossed s text)) is.cipher (tag_of s is.cipher) tags same in
    is.text_is ∙ ap (crossed s) (sym parts.0) ∙ crossed_under_twice s.cipher s.count text

pub opens_sealed : (s : Sealing) (text : List ℕ) → IsBytes text → Opens s (sealed s (crossed s text)) text
opens_sealed s text bytes = record {
  cipher = crossed s text;
  bytes = bytes-crossed_under s.cipher s.count text bytes;
  is = refl;
  text_is = sym (crossed_under_twice s.cipher s.count text);
}

-- what isn't base64 seals nothing
pub unopened : (s : Sealing) (line : List ℕ) (fault : SealFault) → IsUndecoded line fault → IsUnopened s line fault
unopened s line BadSeal none = λ cipher bytes. none (cipher ++ tag_of s cipher) (bytes-tagged s cipher bytes)
unopened s line LongLine none = none
unopened s line Spent none = absurd none
unopened s line NoMemory none = none

pub no_seal_split : (s : Sealing) (line body first last : List ℕ) (n : ℕ) → IsBytes body → line ≡ encode_of standard body
    → first ≡ take n body → last ≡ drop n body → n + 32 ≡ length body → (last ≢ tag_of s first) → IsNoSeal s line
no_seal_split s line body first last n bytes is front back long differs =
    let whole : first ++ last ≡ body = rw (front, back) (take-append-drop n body) in
    let rest : length last ≡ 32 = ap (λ (l : List ℕ). length l) back ∙ length-drop n body ∙ omega (arith, long) in
    no_seal_tag s line first last (subst IsBytes (sym whole) bytes) (is ∙ ap (encode_of standard) (sym whole)) rest differs
