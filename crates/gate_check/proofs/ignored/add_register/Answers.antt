use Rattle.std.proofs.Common.{◌∙◌, Global, List, ap, string_bytes, subst, ℕ}
use Rattle.std.specs.Prelude.{OnOk}
use Rattle.change_core.specs.declared.commit.Commit.{Commit}
use Rattle.gate_check.specs.Gained.{GainsTexts}
use Rattle.gate_check.specs.Ignored.{MessageMisses}
use Rattle.gate_check.proofs.ignored.add_register.Goals as goal

pub returns : goal.returns
returns c =
    subst (λ (message : List ℕ). OnOk c.add_message.result (GainsTexts c.args.values.now (λ value. MessageMisses c.args.bases.now value message) c.add_message.new.values))
    (c.as_str.ensures.value ∙ ap (λ (commit : Commit Global). string_bytes commit.message) c.value.ensures) c.add_message.ensures
