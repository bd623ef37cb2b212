-- The first lines of a sealed connection. A number is written in decimal, bytes in hex in lower case.
use Rattle.std.specs.Prelude.{◌≡◌, ◌<◌, ℕ, ◌^◌, List, ◌∷◌, ◌++◌, codes, decimal, length}
use Rattle.hex.specs.Hex.{IsBytes, encode_lower}
use Rattle.sealed_line.specs.declared.greeting.Answer.{Answer}
use Rattle.sealed_line.specs.declared.greeting.Answer.TheVariants.{Proved, NoKey}
use Rattle.sealed_line.specs.declared.greeting.Greeting.{Greeting}
use Rattle.sealed_line.specs.declared.greeting.Reply.{Reply}

-- the version and a site
abbrev pub greeting_front : ℕ → List ℕ
greeting_front site = codes "key 1 " ++ decimal site

-- a text, a blank, and bytes in hex
abbrev pub then_hex : List ℕ → List ℕ → List ℕ
then_hex text bytes = text ++ 32 ∷ encode_lower bytes

-- `key 1 SITE ID NONCE`
abbrev pub greeting_text : Greeting → List ℕ
greeting_text g = then_hex (then_hex (greeting_front g.site) g.id) g.nonce

-- `key 1 SITE NONCE`
abbrev pub key_reply_text : Reply → List ℕ
key_reply_text r = then_hex (greeting_front r.site) r.nonce

-- `key 1 SITE NONCE PROOF`, or the refusal
abbrev pub key_answer_text : Answer → List ℕ
key_answer_text (Proved reply proof) = then_hex (key_reply_text reply) proof
key_answer_text NoKey = codes "no 12 NoKey"

-- a site is a number below 2 ^ 16, and each of the others has its length
pub record IsGreeting (g : Greeting) : Type 0 where
  pub site : g.site < 2 ^ 16
  pub id_long : length g.id ≡ 8
  pub id : IsBytes g.id
  pub nonce_long : length g.nonce ≡ 16
  pub nonce : IsBytes g.nonce

pub record IsReply (r : Reply) : Type 0 where
  pub site : r.site < 2 ^ 16
  pub nonce_long : length r.nonce ≡ 16
  pub nonce : IsBytes r.nonce

-- a proof has 32 bytes
pub record IsProof (proof : List ℕ) : Type 0 where
  pub long : length proof ≡ 32
  pub bytes : IsBytes proof

-- an answer that can be written: a reply with its proof, or the refusal
abbrev pub IsKeyAnswer : Answer → Type 0
IsKeyAnswer (Proved reply proof) = IsReply reply × IsProof proof
IsKeyAnswer NoKey = Unit {0}
