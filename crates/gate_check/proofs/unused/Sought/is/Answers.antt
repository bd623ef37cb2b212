use Rattle.std.proofs.Common.{Bool, subst, sym}
use Rattle.std.specs.Prelude.{MatchBool}
use Rattle.footer_text.specs.Readings.{ReadsAs}
use Rattle.gate_check.specs.Unused.{IsSought, IsUnder}
use Rattle.gate_check.specs.declared.unused.Sought.{Sought}
use Rattle.gate_check.proofs.Sought.{found_told}
use Rattle.gate_check.proofs.unused.Sought.is.Goals as goal

pub returns-in-Under : goal.returns-in-Under
returns-in-Under c =
    let value = c.args.value.now in
    subst (λ (sought : Sought). MatchBool c.is_some.result (IsSought sought value) (¬ IsSought sought value)) (sym c.in-Under.is)
    (subst (λ (b : Bool). MatchBool b (IsUnder c.in-Under.base.now value) (¬ IsUnder c.in-Under.base.now value)) (sym c.is_some.ensures)
    (found_told (ReadsAs c.in-Under.base.now value) c.read_value.result c.read_value.ensures))
