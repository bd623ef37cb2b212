-- Texts whose last word has a length of its own are read from their end.
use Rattle.std.specs.Prelude.{◌≡◌, ℕ, suc, ◌*◌, ◌++◌, ◌∷◌, List, length, drop, take}
use Rattle.std.proofs.Common.{sym, ◌∙◌, ap, arith, length-append}
use Rattle.std.proofs.Math.Seq.{take-append_seam, drop-append_seam}
use Rattle.hex.specs.Hex.{encode_lower, lower_digits}
use Rattle.hex.proofs.HexLemmas.{length-encode_with}
use Rattle.sealed_line.specs.Greetings.{then_hex}

-- two pieces whose ends are of one length
pub split_alike : (a b c d : List ℕ) → length b ≡ length d → a ++ b ≡ c ++ d → (a ≡ c) × (b ≡ d)
split_alike a b c d same e =
    let lengths = ap (λ (l : List ℕ). length l) e in
    let first : length a ≡ length c = omega (arith, lengths, length-append a b, length-append c d, same) in (
      sym (take-append_seam a b) ∙ ap (take (length a)) e ∙ ap (λ n. take n (c ++ d)) first ∙ take-append_seam c d,
      sym (drop-append_seam a b) ∙ ap (drop (length a)) e ∙ ap (λ n. drop n (c ++ d)) first ∙ drop-append_seam c d,
    )

pub length-hex : (bytes : List ℕ) (n : ℕ) → length bytes ≡ n → length (encode_lower bytes) ≡ 2 * n
length-hex bytes n long = length-encode_with lower_digits bytes ∙ ap (λ m. 2 * m) long

-- a last word of its length is the bytes' hex
pub last_alike : (line front last text bytes : List ℕ) (n : ℕ) → line ≡ front ++ 32 ∷ last → length last ≡ 2 * n → length bytes ≡ n
    → line ≡ then_hex text bytes → (front ≡ text) × (last ≡ encode_lower bytes)
last_alike line front last text bytes n is long of_bytes e =
    let same : length (32 ∷ last) ≡ length (32 ∷ encode_lower bytes) = ap suc (long ∙ sym (length-hex bytes n of_bytes)) in
    let parts = split_alike front (32 ∷ last) text (32 ∷ encode_lower bytes) same (sym is ∙ e) in
    (parts.0, ap (drop 1) parts.1)
