use Rattle.std.proofs.Common.{◌≡◌, refl, subst, List, rules}
use Rattle.std.specs.List.Sorted.{IsPermutation}
use Rattle.state_core.specs.declared.item.Item.{Item}
use Rattle.enqueue_lines.specs.Groups.{AreNamedOnce}
use Rattle.enqueue_lines.proofs.Members.{back_apart, moved_apart}
use Rattle.enqueue_lines.proofs.items.ItemSet.of.Goals as goal

pub returns-then-has_twice : goal.returns-then-has_twice
returns-then-has_twice c = λ apart.
    let moved : IsPermutation c.args.items.items c.in_ok-ordered.ordered.items = subst (λ (xs : List Item). IsPermutation xs c.in_ok-ordered.ordered.items) c.as_slice.ensures.value c.in_ok-ordered.ensures.moved in
    let twice : ¬ AreNamedOnce c.in_ok-ordered.ordered.items = subst (λ (xs : List Item). ¬ AreNamedOnce xs) c.as_slice-2.ensures.value c.if-has_twice.ensures in
    twice (moved_apart c.args.items.items c.in_ok-ordered.ordered.items moved apart)

pub returns : goal.returns
returns c =
    let moved : IsPermutation c.args.items.items c.in_ok-ordered.ordered.items = subst (λ (xs : List Item). IsPermutation xs c.in_ok-ordered.ordered.items) c.as_slice.ensures.value c.in_ok-ordered.ensures.moved in
    let apart : AreNamedOnce c.in_ok-ordered.ordered.items = subst (λ (xs : List Item). AreNamedOnce xs) c.as_slice-2.ensures.value c.if-has_twice.ensures in
    (refl, back_apart c.args.items.items c.in_ok-ordered.ordered.items moved apart)
