use Rattle.std.proofs.Common.{◌≡◌, ◌∙◌, ◌+◌, ◌++◌, length, drop, ap, refl, sym, arith}
use Rattle.std.proofs.lemmas.List.{drop-drop, drop_at}
use Rattle.replica_core.proofs.arrivals.rest_of.Goals as goal

pub returns-in-Some : goal.returns-in-Some
returns-in-Some g c =
    let first = c.args.first.now in
    let second = c.args.second.now in
    let later = c.in-Some.later in
    let is : length first + later ≡ c.args.place = omega (arith, c.in-Some.ensures) in
    c.items_from.ensures
    ∙ ap (drop later) (sym (drop_at first second (length first) refl))
    ∙ drop-drop later (length first) (first ++ second)
    ∙ ap (λ n. drop n (first ++ second)) is
