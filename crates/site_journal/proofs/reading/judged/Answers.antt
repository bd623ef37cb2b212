use Rattle.std.proofs.Common.{◌≡◌, ◌∙◌, refl, true, false}
use Rattle.std.specs.Prelude.{codes}
use Rattle.byte_ends.specs.Lines.{as_line}
use Rattle.site_journal.specs.Text.{header_line}
use Rattle.site_journal.proofs.Steps.{front_is_fresh, other_is_other}
use Rattle.site_journal.proofs.reading.judged.Goals as goal

header_is : as_line (codes "reviewgate 2") ≡ header_line
unfolding header_line
header_is = refl

clash : {b : _} → b ≡ true → b ≡ false → ⊥
clash p q = cc

pub returns-then-is_same : goal.returns-then-is_same
returns-then-is_same c = c.is_same.ensures.0 c.if-is_same.true ∙ header_is

pub returns-then-is_same-2 : goal.returns-then-is_same-2
returns-then-is_same-2 c =
    front_is_fresh c.args.head.now c.split_at.result.0.now
    (as_line (codes "reviewgate 2")) header_is c.split_at.ensures.front c.requires
    (λ e. clash (c.is_same.ensures.1 e) c.if-is_same.false) (c.is_same-2.ensures.0 c.if-is_same-2.true)

pub returns : goal.returns
returns c =
    other_is_other c.args.head.now c.split_at.result.0.now
    (as_line (codes "reviewgate 2")) header_is c.split_at.ensures.front
    (λ e. clash (c.is_same-2.ensures.1 e) c.if-is_same-2.false)
