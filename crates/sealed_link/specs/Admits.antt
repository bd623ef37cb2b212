-- Who is let in.
use Rattle.std.specs.Prelude.{◌≡◌, [], None}
use Rattle.byte_ends.specs.Lines.{as_line}
use Rattle.key_file.specs.Files.{KeyEntry}
use Rattle.sealed_line.specs.Greetings.{key_answer_text}
use Rattle.sealed_line.specs.Keys.{AreKeys, both_lines}
use Rattle.sealed_line.specs.declared.greeting.Answer.TheVariants.{Proved}
use Rattle.sealed_line.specs.declared.greeting.Greeting.{Greeting}
use Rattle.sealed_line.specs.declared.greeting.Reply.{Reply}
use Rattle.sealed_line.specs.declared.keys.SessionKeys.{SessionKeys}
use Rattle.sealed_link.specs.Wires.{Wiring}
use Rattle.sealed_link.specs.declared.admitting.Admitted.{Admitted}

-- the wire of a connection on which nothing came or was sent after both first lines
abbrev pub new_wire : SessionKeys → Wiring
new_wire keys = record { inward = keys.inward; held = []; fault = None; outward = keys.outward; waiting = [] }

-- who has this key is let in: it has the role of the key, and the answer and the seals are those of the key over both
-- lines
pub record IsAdmitted (key : KeyEntry) (greeting : Greeting) (reply : Reply) (admitted : Admitted) : Type 0 where
  pub session : SessionKeys
  pub keys : AreKeys key.secret (both_lines greeting reply) session
  pub role : admitted.role ≡ key.role
  pub answer : admitted.answer.items ≡ as_line (key_answer_text (Proved reply session.proof))
  pub wire : admitted.wire ≡ new_wire session
