use Rattle.std.proofs.Common.{◌≡◌, ◌∙◌, None, Some, sym, ap, subst, length, arith}
use Rattle.std.specs.Prelude.{slice_get}
use Rattle.std.proofs.lemmas.Option.{slice_get-get_or}
use Rattle.walk_core.specs.Digraphs.{ends_of}
use Rattle.ready_core.proofs.Ranking.{rank_above, refused_by_cause, refused_by_nearest, is_found, nearest_of}
use Rattle.ready_core.proofs.Ranking.{nearest_within}
use Rattle.ready_core.proofs.judge.refusal_of.Goals as goal

pub returns-in-Some : goal.returns-in-Some
returns-in-Some c = λ gate state item is of here.
    let cause = slice_get-get_or c.args.causes.now c.args.place None (omega (arith, c.requires.searched.causes_of_all, c.requires.place)) ∙ ap Some c.in-Some.is in
    refused_by_cause gate state c.args.graph.now c.args.causes.now c.args.ranks.now is of c.requires.searched c.args.place item c.args.rank c.in-Some.refusal here c.requires.rank cause

pub overflow_sub-rank : goal.overflow_sub-rank
overflow_sub-rank c =
    let none = slice_get-get_or c.args.causes.now c.args.place None (omega (arith, c.requires.searched.causes_of_all, c.requires.place)) ∙ ap Some c.in_default.is in
    let rest = rank_above c.args.graph.now c.args.causes.now c.args.ranks.now c.requires.searched c.args.place c.args.rank c.requires.rank none in
    omega (arith, rest.1)

pub unwrap-end-requires : goal.unwrap-end-requires
unwrap-end-requires c =
    let none = slice_get-get_or c.args.causes.now c.args.place None (omega (arith, c.requires.searched.causes_of_all, c.requires.place)) ∙ ap Some c.in_default.is in
    is_found c.args.graph.now c.args.causes.now c.args.ranks.now c.requires.searched c.args.place c.args.rank c.ends.result.now c.nearest.result c.requires.rank none
    (c.ends.ensures.row ∙ ap (λ graph. ends_of graph c.args.place) c.digraph.ensures.ends) c.nearest.ensures

pub change_at-requires : goal.change_at-requires
change_at-requires c =
    let nearest = nearest_of c.args.ranks.now c.ends.result.now _ c.nearest.result c.unwrap-end.result c.unwrap-end.ensures c.nearest.ensures in
    let within = nearest_within c.args.ranks.now c.ends.result.now _ c.unwrap-end.result (length c.digraph.result.now) nearest c.ends.ensures.within in
    omega (arith, within, ap length c.digraph.ensures.ends, c.digraph.ensures.nodes, ap length c.items.ensures)

pub returns : goal.returns
returns c = λ gate state item is of here.
    let none = slice_get-get_or c.args.causes.now c.args.place None (omega (arith, c.requires.searched.causes_of_all, c.requires.place)) ∙ ap Some c.in_default.is in
    let nearest = nearest_of c.args.ranks.now c.ends.result.now _ c.nearest.result c.unwrap-end.result c.unwrap-end.ensures c.nearest.ensures in
    let within = nearest_within c.args.ranks.now c.ends.result.now _ c.unwrap-end.result (length c.digraph.result.now) nearest c.ends.ensures.within in
    refused_by_nearest gate state c.args.graph.now c.args.causes.now c.args.ranks.now is of c.requires.searched c.args.place item c.args.rank c.unwrap-end.result c.change_at.result c.ends.result.now here c.requires.rank none
    (c.ends.ensures.row ∙ ap (λ graph. ends_of graph c.args.place) c.digraph.ensures.ends) nearest
    (omega (arith, within, ap length c.digraph.ensures.ends, c.digraph.ensures.nodes))
    (λ next there. c.change_at.ensures next (subst (λ l. slice_get l c.unwrap-end.result ≡ Some next) (sym c.items.ensures) there))
