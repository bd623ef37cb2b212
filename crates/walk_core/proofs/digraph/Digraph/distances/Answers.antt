use Rattle.std.proofs.Common.{◌≡◌, ◌<◌, ◌+◌, [], sym, ap, subst, ◌∙◌, length, vec_len, arith}
use Rattle.std.specs.List.{All}
use Rattle.std.proofs.lemmas.Bool.{eqb-true, eqb-false}
use Rattle.walk_core.specs.Digraphs.{IsMarked}
use Rattle.walk_core.specs.Levels.{Discovers, LeadsInto}
use Rattle.walk_core.proofs.LevelLemmas.{AreKnownTo-first, IsLevel-first, first_fits, AreKnownTo-next, IsLevel-next}
use Rattle.walk_core.proofs.LevelLemmas.{next_fits, AreDistances-done, level_within}
use Rattle.walk_core.proofs.digraph.Digraph.distances.Goals as goal

pub loop-alloc-init : goal.loop-alloc-init
loop-alloc-init g c =
    let graph = c.args.self.now in
    let marked = c.args.marked.now in
    let found = c.reach_marked.new.self in
    let start = c.in_ok-search.ensures in
    let step =
    subst (λ distances. Discovers (IsMarked marked) 0 distances [] found.distances.items found.level.items) start.0
    (subst (λ level. Discovers (IsMarked marked) 0 c.in_ok-search.search.distances.items level found.distances.items found.level.items) start.1 c.in_ok-reach_marked.ensures) in (
      AreKnownTo-first graph marked c.requires c.len.result found.distances.items found.level.items c.len.ensures step,
      IsLevel-first graph marked c.requires c.len.result found.distances.items found.level.items c.len.ensures step,
      first_fits graph marked c.requires c.len.result found.distances.items found.level.items c.len.ensures step,
    )

pub reach_namers-requires-clause-within : goal.reach_namers-requires-clause-within
reach_namers-requires-clause-within g c =
    let is : c.as_slice.result.now ≡ c.loop-alloc.search.level.items = c.as_slice.ensures.value ∙ ap (λ level. level.items) c.replace-level.ensures.value in
    subst (All (λ x. x < length c.args.self.now)) (sym is) (level_within c.args.self.now c.args.marked.now c.loop-alloc.distance c.loop-alloc.search.distances.items c.loop-alloc.search.level.items c.loop-alloc.invariant.0 c.loop-alloc.invariant.1)

pub loop-alloc-preserved : goal.loop-alloc-preserved
loop-alloc-preserved g c =
    let graph = c.args.self.now in
    let marked = c.args.marked.now in
    let n = c.loop-alloc.distance in
    let before = c.loop-alloc.search in
    let found = c.reach_namers.new.self in
    let is : c.as_slice.result.now ≡ before.level.items = c.as_slice.ensures.value ∙ ap (λ level. level.items) c.replace-level.ensures.value in
    let none : c.replace-level.new.dest.items ≡ [] = ap (λ level. level.items) c.replace-level.ensures.after ∙ c.new-in-loop-alloc.ensures.items in
    let step =
    subst (λ last. Discovers (LeadsInto graph last) (n + 1) before.distances.items [] found.distances.items found.level.items) is
    (subst (λ level. Discovers (LeadsInto graph c.as_slice.result.now) (n + 1) before.distances.items level found.distances.items found.level.items) none c.in_ok-reach_namers.ensures) in
    let some : 0 < length before.level.items = omega (arith, before.level.ok.0, eqb-false (vec_len before.level) 0 (sym c.is_empty.ensures ∙ c.loop-alloc-test.true)) in (
      AreKnownTo-next graph marked c.requires n before.distances.items before.level.items c.loop-alloc.invariant.0 c.loop-alloc.invariant.1 found.distances.items found.level.items step,
      IsLevel-next graph marked c.requires n before.distances.items before.level.items c.loop-alloc.invariant.0 c.loop-alloc.invariant.1 found.distances.items found.level.items step,
      next_fits graph marked c.requires n before.distances.items before.level.items c.loop-alloc.invariant.0 c.loop-alloc.invariant.1 found.distances.items found.level.items step some c.loop-alloc.invariant.2,
    )

pub returns : goal.returns
returns g c =
    let last = c.loop-alloc.search in
    let empty : length last.level.items ≡ 0 = omega (arith, last.level.ok.0, eqb-true (vec_len last.level) 0 (sym c.is_empty.ensures ∙ c.loop-alloc-test.false)) in
    AreDistances-done c.args.self.now c.args.marked.now c.requires c.loop-alloc.distance last.distances.items last.level.items c.loop-alloc.invariant.0 c.loop-alloc.invariant.1 empty
