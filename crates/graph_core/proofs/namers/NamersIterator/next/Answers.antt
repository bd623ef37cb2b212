use Rattle.std.proofs.Common.{rules, ◌∙◌, ap, map, sym}
use Rattle.graph_core.specs.ItemGraph.{has}
use Rattle.graph_core.proofs.Naming.{named_first}
use Rattle.graph_core.proofs.namers.NamersIterator.next.Goals as goal

pub returns-then-contains-clause-steps : goal.returns-then-contains-clause-steps
returns-then-contains-clause-steps c =
    let number = c.loop-item.self-inside.change in
    sym c.loop-item.invariant
    ∙ named_first c.loop-item.self-inside.items.now c.in-Some.items.now
    (map (λ row. row.items) c.loop-item.self-inside.targets.now) (map (λ row. row.items) c.in_ok-row.targets.now)
    c.in-Some.item.now c.in_ok-row.row.now.items number
    c.in-Some.ensures.cases.0
    (ap (map (λ row. row.items)) c.in_ok-row.ensures.cases.0)
    (ap (λ l. has l number) (sym c.deref.ensures.value) ∙ sym c.contains.ensures.value ∙ c.if-contains.true)

pub returns-then-contains-clause-goes : goal.returns-then-contains-clause-goes
returns-then-contains-clause-goes c = search (returns-then-contains-clause-steps c, rules)
