use Rattle.std.proofs.Common.{◌≡◌, ◌∙◌, ap, map, subst, sym}
use Rattle.std.specs.Prelude.{IfOk}
use Rattle.std.proofs.lemmas.List.{map-append}
use Rattle.state_core.specs.State.{state_of}
use Rattle.line_batches.proofs.PartStates.{split_joined}
use Rattle.line_batches.proofs.parts.+consumes.Goals as goal

pub returns : goal.returns
returns g t c =
    let front = c.split_off.new.self.items in
    let back = c.in_ok-back.back.items in
    subst (λ l. IfOk c.both.result (λ s. s ≡ state_of l))
    (sym (map-append (λ one. one.1.now) front back) ∙ ap (map (λ one. one.1.now)) (split_joined _ c.args.ops.items front back c.in_ok-back.ensures.items c.in_ok-back.ensures.tail))
    (c.both.ensures (map (λ one. one.1.now) front) (map (λ one. one.1.now) back) c.join-first.ensures.first c.join-first.ensures.second)
