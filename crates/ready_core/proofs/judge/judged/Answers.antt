use Rattle.std.proofs.Common.{◌≡◌, ◌<◌, ℕ, Contains, length, map, get_or, is_none, sym, ap, ◌∙◌, subst, arith}
use Rattle.std.proofs.lemmas.List.{length-map}
use Rattle.std.proofs.lemmas.List.Elements.{Contains-get_or}
use Rattle.std.proofs.lemmas.Option.{slice_get_within}
use Rattle.walk_core.specs.Digraphs.{HasEdge, IsMarked, IsWithin}
use Rattle.lattice_core.specs.MemberLaws.{Contains-to_map}
use Rattle.walk_core.specs.NodeRanks.{to_rank as to_node_rank}
use Rattle.walk_core.specs.Ranks.{Rank}
use Rattle.ready_core.specs.Causes.{IsRankWithin, safe_flags}
use Rattle.ready_core.proofs.GateVerdicts.{flags_closed, leads_within}
use Rattle.ready_core.proofs.judge.judged.Goals as goal

pub ranks-requires-clause-closed : goal.ranks-requires-clause-closed
ranks-requires-clause-closed c = λ x y marked edge.
    let flags : c.as_slice.result.now ≡ safe_flags c.args.ranks.now = c.as_slice.ensures.value ∙ c.in_ok-safe.ensures in
    subst (λ marks. IsMarked marks y) (sym flags)
    (flags_closed c.args.graph.now c.args.causes.now c.args.ranks.now c.requires x y (subst (λ marks. IsMarked marks x) flags marked) (subst (λ ends. HasEdge ends x y) c.digraph.ensures.ends edge))

pub ranks_at-requires : goal.ranks_at-requires
ranks_at-requires c = λ k d within.
    let flags : c.as_slice.result.now ≡ safe_flags c.args.ranks.now = c.as_slice.ensures.value ∙ c.in_ok-safe.ensures in
    let sized : length (safe_flags c.args.ranks.now) ≡ length c.args.graph.now.items = length-map c.args.ranks.now is_none ∙ c.requires.distances.nodes ∙ c.requires.nodes in
    let rank = get_or c.as_slice-2.result.now k d in
    let here : Contains c.in_ok-places.places.items rank = subst (λ places. Contains places rank) c.as_slice-2.ensures.value (Contains-get_or c.as_slice-2.result.now k d within) in
    let mapped = Contains-to_map to_node_rank c.in_ok-places.places.items rank here in
    let is = c.in_ok-places.ensures.each (to_node_rank rank) mapped in
    let marked = (c.in_ok-places.ensures.just rank.node).0 (Contains-to_map (λ (r : Rank ℕ). r.node) (map to_node_rank c.in_ok-places.places.items) (to_node_rank rank) mapped) in
    let inside = slice_get_within c.as_slice.result.now _ _ marked in
    let node : rank.node < length c.args.graph.now.items = omega (arith, inside, ap length flags, sized) in
    let edges : IsWithin c.digraph.result.now = subst IsWithin (sym c.digraph.ensures.ends) c.requires.within in
    let sizes : length c.digraph.result.now ≡ length c.args.graph.now.items = ap length c.digraph.ensures.ends ∙ c.requires.nodes in
    let first : rank.first < length c.args.graph.now.items =
    subst (λ n. rank.first < n) sizes (leads_within c.digraph.result.now edges is.first.here.forth.0 rank.node rank.first (omega (arith, node, sizes)) is.first.here.forth.1) in
    subst (λ items. IsRankWithin (length items) rank) (sym c.items.ensures) (record { first = first; node = node })
