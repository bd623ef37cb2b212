use Rattle.std.proofs.Common.{◌≡◌, ◌∙◌, ap, map, subst, sym}
use Rattle.std.specs.Prelude.{IfOk}
use Rattle.std.proofs.lemmas.List.{map-append}
use Rattle.state_core.specs.State.{state_of}
use Rattle.line_batches.proofs.parts.+joins.Goals as goal

pub returns : goal.returns
returns g t c =
    let front = c.split_at.result.0.now in
    let back = c.split_at.result.1.now in
    subst (λ l. IfOk c.both.result (λ s. s ≡ state_of l))
    (sym (ap (map (λ one. one.1.now)) c.split_at.ensures.by_index.0 ∙ map-append (λ one. one.1.now) front back))
    (c.both.ensures (map (λ one. one.1.now) front) (map (λ one. one.1.now) back) c.join-first.ensures.first c.join-first.ensures.second)
