use Rattle.commands.proofs.run.do_command.Goals as goal

pub returns-in-Simulate : goal.returns-in-Simulate
returns-in-Simulate g c = rw c.in-Simulate.is c.simulate.ensures

pub returns-in-Ready : goal.returns-in-Ready
returns-in-Ready g c = rw c.in-Ready.is c.ready.ensures

pub returns-in-ReadyItem : goal.returns-in-ReadyItem
returns-in-ReadyItem g c = rw c.in-ReadyItem.is c.ready_item.ensures

pub returns-in-Merge : goal.returns-in-Merge
returns-in-Merge g c = rw c.in-Merge.is c.merge.ensures

pub returns-in-Footers : goal.returns-in-Footers
returns-in-Footers g c = rw c.in-Footers.is c.footers.ensures

pub returns-in-Why : goal.returns-in-Why
returns-in-Why g c = rw c.in-Why.is c.why.ensures

pub returns-in-Graph : goal.returns-in-Graph
returns-in-Graph g c = rw c.in-Graph.is c.graph.ensures

pub returns-in-Check : goal.returns-in-Check
returns-in-Check g c = rw c.in-Check.is c.check.ensures
