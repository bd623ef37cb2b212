use Rattle.std.proofs.Common.{◌∷◌, ◌++◌, [], sym, ap}
use Rattle.json.specs.Print.{escape_byte, quoted}
use Rattle.op_text.specs.Field.{key_of}
use Rattle.op_text.proofs.field.Field.literal.Goals as goal

pub returns-in-Change : goal.returns-in-Change
unfolding escape_byte
returns-in-Change c = ap (λ field. 44 ∷ (quoted (key_of field) ++ 58 ∷ [])) (sym c.in-Change.is)

pub returns-in-Label : goal.returns-in-Label
unfolding escape_byte
returns-in-Label c = ap (λ field. 44 ∷ (quoted (key_of field) ++ 58 ∷ [])) (sym c.in-Label.is)

pub returns-in-Message : goal.returns-in-Message
unfolding escape_byte
returns-in-Message c = ap (λ field. 44 ∷ (quoted (key_of field) ++ 58 ∷ [])) (sym c.in-Message.is)

pub returns-in-Op : goal.returns-in-Op
unfolding escape_byte
returns-in-Op c = ap (λ field. 44 ∷ (quoted (key_of field) ++ 58 ∷ [])) (sym c.in-Op.is)

pub returns-in-Parent : goal.returns-in-Parent
unfolding escape_byte
returns-in-Parent c = ap (λ field. 44 ∷ (quoted (key_of field) ++ 58 ∷ [])) (sym c.in-Parent.is)

pub returns-in-Seq : goal.returns-in-Seq
unfolding escape_byte
returns-in-Seq c = ap (λ field. 44 ∷ (quoted (key_of field) ++ 58 ∷ [])) (sym c.in-Seq.is)

pub returns-in-Set : goal.returns-in-Set
unfolding escape_byte
returns-in-Set c = ap (λ field. 44 ∷ (quoted (key_of field) ++ 58 ∷ [])) (sym c.in-Set.is)

pub returns-in-Site : goal.returns-in-Site
unfolding escape_byte
returns-in-Site c = ap (λ field. 44 ∷ (quoted (key_of field) ++ 58 ∷ [])) (sym c.in-Site.is)

pub returns-in-Start : goal.returns-in-Start
unfolding escape_byte
returns-in-Start c = ap (λ field. 44 ∷ (quoted (key_of field) ++ 58 ∷ [])) (sym c.in-Start.is)

pub returns-in-Time : goal.returns-in-Time
unfolding escape_byte
returns-in-Time c = ap (λ field. 44 ∷ (quoted (key_of field) ++ 58 ∷ [])) (sym c.in-Time.is)

pub returns-in-Value : goal.returns-in-Value
unfolding escape_byte
returns-in-Value c = ap (λ field. 44 ∷ (quoted (key_of field) ++ 58 ∷ [])) (sym c.in-Value.is)

pub returns-in-Voter : goal.returns-in-Voter
unfolding escape_byte
returns-in-Voter c = ap (λ field. 44 ∷ (quoted (key_of field) ++ 58 ∷ [])) (sym c.in-Voter.is)
