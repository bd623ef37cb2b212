-- The words of the first lines, from the last one on.
use Rattle.std.proofs.Common.{◌≡◌, ◌≢◌, ℕ, List, codes, length, Result, Ok, Err, MatchResult}
use Rattle.hex.specs.Hex.{IsBytes, decode_sized, encode_lower}
use Rattle.hex.specs.declared.error.FromHexError.{FromHexError}
use Rattle.hex.proofs.HexLemmas.{decode_sized-encode_lower}
use Rattle.sealed_line.specs.Greetings.{IsKeyAnswer, IsProof, IsReply, key_answer_text}
use Rattle.sealed_line.specs.declared.greeting.Answer.{Answer}
use Rattle.sealed_line.specs.declared.greeting.Answer.TheVariants.{Proved, NoKey}
use Rattle.sealed_line.specs.declared.greeting.Reply.{Reply}

pub no_answer : (line : List ℕ) → (line ≢ codes "no 12 NoKey")
    → ((reply : Reply) (proof : List ℕ) → IsReply reply → IsProof proof → line ≢ key_answer_text (Proved reply proof))
    → (answer : Answer) → IsKeyAnswer answer → line ≢ key_answer_text answer
no_answer line not none (Proved reply proof) is = none reply proof is.0 is.1
no_answer line not none NoKey is = not

-- what is some bytes' hex is decoded to them
pub decodes : (text bytes out : List ℕ) (room n : ℕ) (r : Result (Unit {0}) FromHexError)
    → MatchResult (decode_sized text room) (λ decoded. (r ≡ Ok tt) × (out ≡ decoded)) (λ fault. r ≡ Err fault)
    → room ≡ n → length bytes ≡ n → IsBytes bytes → text ≡ encode_lower bytes → (r ≡ Ok tt) × (out ≡ bytes)
decodes text bytes out room n r told same long is e =
    let decoded : decode_sized text room ≡ Ok bytes = rw (e, same) (decode_sized-encode_lower bytes n long is) in
    rw decoded at told
