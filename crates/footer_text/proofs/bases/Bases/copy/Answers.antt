use Rattle.std.proofs.Common.{string_bytes, sym, ◌∙◌, subst}
use Rattle.footer_text.specs.Bases.{AreBases}
use Rattle.lattice_core.specs.ZipLaws.{map-copies}
use Rattle.footer_text.proofs.bases.Bases.copy.Goals as goal

pub returns : goal.returns
returns g c = map-copies string_bytes _ _ c.in_ok-texts.ensures.cases.0 ∙ c.self.view_is

pub invariant_of-result : goal.invariant_of-result
invariant_of-result g c =
    subst AreBases (sym (map-copies string_bytes _ _ c.in_ok-texts.ensures.cases.0)) c.self.invariant
