use Rattle.std.proofs.Common.{◌≡◌, sym, ap, ◌∙◌, rules}
use Rattle.std.specs.List.{list_any}
use Rattle.std.proofs.lemmas.List.Sorted.{list_any-IsPermutation}
use Rattle.enqueue_lines.proofs.items.in_order.Goals as goal

pub returns-clause-same : goal.returns-clause-same
returns-clause-same c = λ test.
    let copied : c.in_ok-ordered.ordered.items ≡ c.args.items.now = search rules in
    sym (list_any-IsPermutation test _ _ c.sort_unstable.ensures.permutation) ∙ ap (list_any test) copied
