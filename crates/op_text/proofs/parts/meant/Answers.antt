use Rattle.std.proofs.Common.{◌∷◌, [], sym, ap}
use Rattle.json.specs.Print.{escape_byte}
use Rattle.op_text.proofs.parts.meant.Goals as goal

pub returns-in-34 : goal.returns-in-34
unfolding escape_byte
returns-in-34 c = ap (λ letter. 92 ∷ letter ∷ []) (sym c.in-34.is)

pub returns-in-92 : goal.returns-in-92
unfolding escape_byte
returns-in-92 c = ap (λ letter. 92 ∷ letter ∷ []) (sym c.in-92.is)

pub returns-in-110 : goal.returns-in-110
unfolding escape_byte
returns-in-110 c = ap (λ letter. 92 ∷ letter ∷ []) (sym c.in-110.is)

pub returns-in-116 : goal.returns-in-116
unfolding escape_byte
returns-in-116 c = ap (λ letter. 92 ∷ letter ∷ []) (sym c.in-116.is)

pub returns-in-114 : goal.returns-in-114
unfolding escape_byte
returns-in-114 c = ap (λ letter. 92 ∷ letter ∷ []) (sym c.in-114.is)

pub returns-in-98 : goal.returns-in-98
unfolding escape_byte
returns-in-98 c = ap (λ letter. 92 ∷ letter ∷ []) (sym c.in-98.is)

pub returns-in-102 : goal.returns-in-102
unfolding escape_byte
returns-in-102 c = ap (λ letter. 92 ∷ letter ∷ []) (sym c.in-102.is)
