use Rattle.std.proofs.Common.{map, option_map, Some, String, Vec, Global, string_bytes, sym, ap, ◌∙◌}
use Rattle.lattice_core.specs.ZipLaws.{map-copies}
use Rattle.gate_rules.proofs.gate.copied_texts.Goals as goal

pub returns-in_ok-clone-in-Some : goal.returns-in_ok-clone-in-Some
returns-in_ok-clone-in-Some c =
    ap Some (map-copies string_bytes _ _ c.in_ok-clone-in-Some.ensures.cases.0)
    ∙ sym (ap (option_map (λ (list : Vec (String Global) Global). map string_bytes list.items)) c.in-Some.is)
