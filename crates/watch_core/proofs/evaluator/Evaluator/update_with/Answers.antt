use Rattle.std.proofs.Common.{◌≤◌, ◌∙◌, ap, arith, drop, length, sym}
use Rattle.std.proofs.lemmas.List.{drop_all}
use Rattle.state_core.specs.State.{state_of}
use Rattle.watch_core.specs.Asked.{counted}
use Rattle.watch_core.specs.Watching.{Watching}
use Rattle.watch_core.proofs.KeptLemmas.{counted_none, none_touched}
use Rattle.watch_core.proofs.evaluator.Evaluator.update_with.Goals as goal

pub returns-then-self-len-clause-asked : goal.returns-then-self-len-clause-asked
returns-then-self-len-clause-asked g c = λ some count is.
    let journal = c.args.replica.now in
    let seen = c.args.self.now.seen in
    let asked = g.J.Judge.asked c.args.judge.now in
    let end : length journal ≤ seen = omega (arith, c.if-self-len.true, c.len.ensures, ap (λ (w : Watching). w.seen) c.self.view_is) in
    let none = none_touched (state_of journal) (drop seen journal) count (drop_all seen journal end) is in
    sym (counted_none asked) ∙ ap (counted asked) (sym none)
