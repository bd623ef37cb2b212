-- The keys of a connection: each is a tag under the secret, of a label of 16 bytes and of both first lines up to the
-- proof. No two labels are the same, and no message of one is a message of another.
use Rattle.std.specs.Prelude.{◌≡◌, ℕ, List, ◌∷◌, ◌++◌, codes, take}
use Rattle.keyed_digest.specs.Hmac.{hmac}
use Rattle.sealed_line.specs.Greetings.{greeting_text, key_reply_text}
use Rattle.sealed_line.specs.Sealing.{Sealing}
use Rattle.sealed_line.specs.declared.greeting.Greeting.{Greeting}
use Rattle.sealed_line.specs.declared.greeting.Reply.{Reply}
use Rattle.sealed_line.specs.declared.keys.SessionKeys.{SessionKeys}

-- the ID of a key, which names it without disclosing it: eight bytes
abbrev pub id_under : List ℕ → List ℕ
id_under secret = take 8 (hmac secret (codes "reviewgate keyid"))

-- both first lines, up to the proof, with a line end between them
abbrev pub both_lines : Greeting → Reply → List ℕ
both_lines greeting reply = greeting_text greeting ++ 10 ∷ key_reply_text reply

-- what seals the lines of one direction, by the labels of its two keys
abbrev pub sealing_under : List ℕ → List ℕ → List ℕ → List ℕ → Sealing
sealing_under secret lines tags cipher =
    record { tags = hmac secret (tags ++ lines); cipher = hmac secret (cipher ++ lines); count = 0 }

-- the keys that both sides have: what proves the secret, and what seals the lines of who comes in and of who answers
pub record AreKeys (secret lines : List ℕ) (keys : SessionKeys) : Type 0 where
  pub proof : keys.proof ≡ hmac secret (codes "reviewgate proof" ++ lines)
  pub inward : keys.inward ≡ sealing_under secret lines (codes "reviewgate tags>") (codes "reviewgate ciph>")
  pub outward : keys.outward ≡ sealing_under secret lines (codes "reviewgate tags<") (codes "reviewgate ciph<")
