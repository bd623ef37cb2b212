-- What whole lines, and a piece of one, open to.
use Rattle.std.proofs.Common.{◌≡◌, ℕ, suc, ◌-◌, ◌==◌, ◌++◌, [], ◌∷◌, true, false, List, Some, sym, ◌∙◌, ap, refl, arith}
use Rattle.std.proofs.Common.{length, length-append, append_assoc}
use Rattle.std.proofs.lemmas.Bool.{and_from, eq-eqb, ne_eqb}
use Rattle.std.proofs.Math.Seq.{take-append_seam, drop-append_seam}
use Rattle.std.specs.Int.{to_be_bytes, w64}
use Rattle.std.specs.Prelude.{option_and_then}
use Rattle.base64.specs.Engines.{standard}
use Rattle.base64.proofs.EngineFacts.{decode_of-encode_of}
use Rattle.base64.proofs.Streams.{decoded_of-ok}
use Rattle.byte_ends.specs.Lines.{as_line}
use Rattle.keyed_digest.specs.HmacFacts.{bytes-append, bytes-hmac, length-hmac}
use Rattle.line_reader.specs.Lines.{HasNoLf}
use Rattle.sealed_line.specs.Sealing.{Opens, Sealing, after_line, crossed, tag_of}
use Rattle.sealed_ends.specs.Opened.{alike, opened, opened_body, opened_line, opened_texts, whole_lines}

alike_same : (bytes : List ℕ) → alike bytes bytes ≡ true
alike_same [] = refl
alike_same (b ∷ bytes) = and_from (b == b) (alike bytes bytes) (eq-eqb b b refl) (alike_same bytes)

tagged_text : (s : Sealing) (cipher : List ℕ) → opened_body s (cipher ++ tag_of s cipher) ≡ Some (crossed s cipher)
tagged_text s cipher =
    let tag = tag_of s cipher in
    let long = length-hmac s.tags (to_be_bytes w64 s.count ++ cipher) in
    let n : length (cipher ++ tag) - 32 ≡ length cipher = omega (arith, length-append cipher tag, long) in
    rw (n, take-append_seam cipher tag, drop-append_seam cipher tag, alike_same tag) refl

pub line_is : (s : Sealing) (line text : List ℕ) → Opens s line text → opened_line s line ≡ Some text
line_is s line text is =
    let body = is.cipher ++ tag_of s is.cipher in
    let bytes = bytes-append is.cipher (tag_of s is.cipher) is.bytes (bytes-hmac s.tags (to_be_bytes w64 s.count ++ is.cipher)) in
    let decoded = decoded_of-ok standard line body (rw is.is (decode_of-encode_of standard body refl bytes)) in
    ap (option_and_then (opened_body s)) decoded ∙ tagged_text s is.cipher ∙ ap Some (sym is.text_is)

pub whole_first : (line rest : List ℕ) → HasNoLf line → whole_lines (line ++ 10 ∷ rest) ≡ line ∷ whole_lines rest
unfolding whole_lines
whole_first [] rest plain = refl
whole_first (b ∷ line) rest plain =
    let other : (b == 10) ≡ false = ne_eqb b 10 (plain 0 0 (omega arith)) in
    let more = whole_first line rest (λ k d lt. plain (suc k) d (omega (arith, lt))) in
    rw (other, more) refl

pub opened_first : (s : Sealing) (line rest text : List ℕ) → HasNoLf line → Opens s line text
    → opened s (as_line line ++ rest) ≡ as_line text ++ opened (after_line s) rest
unfolding opened_texts
opened_first s line rest text plain is =
    ap (opened s) (append_assoc line (10 ∷ []) rest) ∙ ap (opened_texts s) (whole_first line rest plain)
    ∙ rw (line_is s line text is) refl

pub whole_lines-none : (piece : List ℕ) → HasNoLf piece → whole_lines piece ≡ []
unfolding whole_lines
whole_lines-none [] plain = refl
whole_lines-none (b ∷ piece) plain =
    let other : (b == 10) ≡ false = ne_eqb b 10 (plain 0 0 (omega arith)) in
    let rest = whole_lines-none piece (λ k d lt. plain (suc k) d (omega (arith, lt))) in
    rw (other, rest) refl
