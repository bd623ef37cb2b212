use Rattle.std.proofs.Common.{◌∙◌, List, ℕ, Some, ap, map, option_map, string_bytes, sym}
use Rattle.std.specs.Map.Iter.{deref}
use Rattle.std.proofs.lemmas.Map.Iter.{rest_more}
use Rattle.gate_check.specs.Nearest.{nearer, nearest_of}
use Rattle.gate_check.proofs.nearest.nearest.Goals as goal

pub loop-other-preserved : goal.loop-other-preserved
loop-other-preserved c =
    let name = c.args.name.now in
    let best = option_map (λ near. near.name.now) c.loop-other.best in
    let first = rest_more deref _ _ _ _ c.in-Some.is c.next.ensures.steps in
    let near = c.nearer.ensures name c.loop-other.invariant.near c.in_ok-edits.ensures.value in
    record {
      near = near.0;
      same = ap (λ (n : List ℕ). nearest_of name (Some n) (map string_bytes c.next.new.self)) (near.1 ∙ ap (nearer name best) c.as_str-other.ensures.value)
          ∙ ap (λ l. nearest_of name best (map string_bytes l)) (sym first) ∙ c.loop-other.invariant.same;
    }
