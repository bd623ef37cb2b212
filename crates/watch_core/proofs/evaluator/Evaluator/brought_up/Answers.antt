use Rattle.std.proofs.Common.{subst, sym, take}
use Rattle.state_core.specs.State.{state_of}
use Rattle.ready_core.specs.RankedVerdicts.{AreRankedVerdictsOn}
use Rattle.watch_core.specs.Namers.{namer_rows}
use Rattle.watch_core.specs.Watching.{AreOfSeen, Watching}
use Rattle.watch_core.proofs.Following.{all_follow, finds_again, found_once, lists_kept}
use Rattle.watch_core.proofs.evaluator.Evaluator.brought_up.Goals as goal

pub put_in_place-requires-clause-lists : goal.put_in_place-requires-clause-lists
put_in_place-requires-clause-lists g c =
    let journal = c.args.replica.now in
    let own = c.self.inside in
    let were = subst (λ (w : Watching). AreOfSeen w journal c.args.kept) (sym c.self.view_is) c.requires.kept in
    lists_kept own.gate (state_of (take own.seen journal)) c.args.kept were.verdicts (namer_rows own.namers)
    own.ranks.items were.kept

pub put_in_place-requires-clause-once : goal.put_in_place-requires-clause-once
put_in_place-requires-clause-once g c =
    found_once c.self.inside.gate c.state-state.result.now c.in_ok-again.again.graph.items c.in_ok-found.found
    c.in_ok-found.ensures.verdicts

pub put_in_place-requires-clause-finds : goal.put_in_place-requires-clause-finds
put_in_place-requires-clause-finds g c =
    let journal = c.args.replica.now in
    let own = c.self.inside in
    let were = subst (λ (w : Watching). AreOfSeen w journal c.args.kept) (sym c.self.view_is) c.requires.kept in
    let again = c.in_ok-again.again in
    let found = c.in_ok-found.found in
    let are = subst (λ state. AreRankedVerdictsOn own.gate state again.graph.items found) c.state-state.ensures
    c.in_ok-found.ensures.verdicts in
    finds_again own.gate journal own.seen c.args.kept own.ranks.items own.namers were.verdicts were.kept again
    c.in_ok-again.ensures.again c.in_ok-again.ensures.waiting found are

pub returns-clause-verdicts : goal.returns-clause-verdicts
returns-clause-verdicts g c =
    let journal = c.args.replica.now in
    let own = c.self.inside in
    let were = subst (λ (w : Watching). AreOfSeen w journal c.args.kept) (sym c.self.view_is) c.requires.kept in
    let again = c.in_ok-again.again in
    let found = c.in_ok-found.found in
    let are = subst (λ state. AreRankedVerdictsOn own.gate state again.graph.items found) c.state-state.ensures
    c.in_ok-found.ensures.verdicts in
    let names = c.in_ok-add_graph.ensures in
    (all_follow own.gate journal own.seen c.args.kept own.ranks.items own.namers were.verdicts were.kept again
    c.in_ok-again.ensures.again c.in_ok-again.ensures.waiting found are c.add_graph.new.namers names.keeps names.names
    c.put_in_place.new.ranks.items c.put_in_place.result c.put_in_place.ensures.lists c.put_in_place.ensures.up).0

pub returns-clause-kept : goal.returns-clause-kept
returns-clause-kept g c =
    let journal = c.args.replica.now in
    let own = c.self.inside in
    let were = subst (λ (w : Watching). AreOfSeen w journal c.args.kept) (sym c.self.view_is) c.requires.kept in
    let again = c.in_ok-again.again in
    let found = c.in_ok-found.found in
    let are = subst (λ state. AreRankedVerdictsOn own.gate state again.graph.items found) c.state-state.ensures
    c.in_ok-found.ensures.verdicts in
    let names = c.in_ok-add_graph.ensures in
    (all_follow own.gate journal own.seen c.args.kept own.ranks.items own.namers were.verdicts were.kept again
    c.in_ok-again.ensures.again c.in_ok-again.ensures.waiting found are c.add_graph.new.namers names.keeps names.names
    c.put_in_place.new.ranks.items c.put_in_place.result c.put_in_place.ensures.lists c.put_in_place.ensures.up).1
