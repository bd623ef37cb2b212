-- The lines are those that were written, under the secret.
use Rattle.std.proofs.Common.{◌≡◌, ◌++◌, ◌∷◌, [], List, ℕ, ap, ◌∙◌, append_assoc, subst}
use Rattle.sealed_line.specs.Greetings.{greeting_text, key_reply_text}
use Rattle.sealed_line.specs.Keys.{AreKeys, both_lines}
use Rattle.sealed_line.proofs.keys.session_keys.Goals as goal

pub returns : goal.returns
returns g c =
    let greeting = greeting_text c.args.greeting.now in
    let reply = key_reply_text c.args.reply.now in
    let first = c.in_ok-write.ensures ∙ ap (λ (l : List ℕ). l ++ greeting) c.new-lines.ensures.items in
    let then_end = c.in_ok-push.ensures.items ∙ ap (λ (l : List ℕ). l ++ 10 ∷ []) first in
    let lines : c.as_slice.result.now ≡ both_lines c.args.greeting.now c.args.reply.now =
    c.as_slice.ensures.value ∙ c.in_ok-write-2.ensures ∙ ap (λ (l : List ℕ). l ++ reply) then_end ∙ append_assoc greeting (10 ∷ []) reply in
    subst (λ (l : List ℕ). AreKeys c.args.secret.now l c.keys_over.result) lines
    (subst (λ (key : List ℕ). AreKeys key c.as_slice.result.now c.keys_over.result) c.new.ensures c.keys_over.ensures)
