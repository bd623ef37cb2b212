use Rattle.std.proofs.lemmas.Result.{IfOk-weaker}
use Rattle.command_tree.specs.Rows.{rows_in}
use Rattle.command_line.specs.Asking.{check, enqueue, events, footers, graph, merge, queries, ready, recover, serve}
use Rattle.command_line.specs.Asking.{simulate, why}
use Rattle.command_line.proofs.Naming.{found_named}
use Rattle.command_line.proofs.words.named.Goals as goal

pub returns-in-ready : goal.returns-in-ready
returns-in-ready c =
    found_named ready c.args.name.now (rows_in c.args.values.now) c.ready_in.result c.in-ready.is c.ready_in.ensures

pub returns-in-why : goal.returns-in-why
returns-in-why c =
    found_named why c.args.name.now (rows_in c.args.values.now) c.why_in.result c.in-why.is c.why_in.ensures

pub returns-in-graph : goal.returns-in-graph
returns-in-graph c =
    found_named graph c.args.name.now (rows_in c.args.values.now) c.graph_in.result c.in-graph.is c.graph_in.ensures

pub returns-in-merge : goal.returns-in-merge
returns-in-merge c =
    found_named merge c.args.name.now (rows_in c.args.values.now) c.merge_in.result c.in-merge.is c.merge_in.ensures

pub returns-in-footers : goal.returns-in-footers
returns-in-footers c =
    found_named footers c.args.name.now (rows_in c.args.values.now) c.footers_in.result c.in-footers.is c.footers_in.ensures

pub returns-in-check : goal.returns-in-check
returns-in-check c =
    found_named check c.args.name.now (rows_in c.args.values.now) c.check_in.result c.in-check.is c.check_in.ensures

pub returns-in-simulate : goal.returns-in-simulate
returns-in-simulate c =
    found_named simulate c.args.name.now (rows_in c.args.values.now) c.simulate_in.result c.in-simulate.is c.simulate_in.ensures

pub returns-in-recover : goal.returns-in-recover
returns-in-recover c =
    IfOk-weaker c.recover_in.result _ _
    (λ read. found_named recover c.args.name.now (rows_in c.args.values.now) read c.in-recover.is) c.recover_in.ensures

pub returns-in-serve : goal.returns-in-serve
returns-in-serve c =
    IfOk-weaker c.serve_in.result _ _
    (λ read. found_named serve c.args.name.now (rows_in c.args.values.now) read c.in-serve.is) c.serve_in.ensures

pub returns-in-events : goal.returns-in-events
returns-in-events c =
    IfOk-weaker c.events_in.result _ _
    (λ read. found_named events c.args.name.now (rows_in c.args.values.now) read c.in-events.is) c.events_in.ensures

pub returns-in-queries : goal.returns-in-queries
returns-in-queries c =
    found_named queries c.args.name.now (rows_in c.args.values.now) c.queries_in.result c.in-queries.is c.queries_in.ensures

pub returns-in-enqueue : goal.returns-in-enqueue
returns-in-enqueue c =
    found_named enqueue c.args.name.now (rows_in c.args.values.now) c.enqueue_in.result c.in-enqueue.is c.enqueue_in.ensures
