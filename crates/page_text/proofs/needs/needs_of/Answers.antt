use Rattle.graph_core.specs.Once.{once_each}
use Rattle.page_text.proofs.needs.needs_of.Goals as goal

pub returns : goal.returns
returns c =
    let once = once_each _ _ _ c.sort_unstable.ensures.permutation c.sort_unstable.ensures.sorted c.dedup.ensures.filtered in
    let named = c.in_ok-needs.ensures in
    record {
      increasing = once.increasing;
      each = λ n. (λ c. (named n).0 ((once.each n).0 c), λ names. (once.each n).1 ((named n).1 names));
    }
