use Rattle.std.proofs.Common.{◌≡◌, ◌≤◌, ◌∙◌, ap, drop, filter, length, subst}
use Rattle.std.proofs.lemmas.Result.{on_ok_weaker}
use Rattle.state_core.specs.State.{state_of}
use Rattle.watch_core.specs.Asked.{counted}
use Rattle.watch_core.specs.KeptOwns.{is_of_touched}
use Rattle.watch_core.proofs.Following.{count_again}
use Rattle.watch_core.proofs.again.Again.owns.Goals as goal

pub returns-clause-asked : goal.returns-clause-asked
returns-clause-asked g c =
    let again = c.args.self.now in
    let later = drop c.args.seen c.args.replica.now in
    on_ok_weaker c.owns_of.result
    (λ asked count counts.
    let size : length (filter (is_of_touched later) c.items-items.result.now) ≡ count =
    ap (λ l. length (filter (is_of_touched later) l)) c.items-items.ensures
    ∙ count_again c.args.gate.now (state_of c.args.replica.now) again.graph later again.reach.all again.reach.items
    c.requires.again.graph c.requires.again.holds count counts in
    subst (λ n. g.J.Judge.asked c.owns_of.new.judge ≡ counted (g.J.Judge.asked c.args.judge.now) n) size asked)
    c.owns_of.ensures.asked

pub returns-clause-at_most : goal.returns-clause-at_most
returns-clause-at_most g c = λ count counts.
    let again = c.args.self.now in
    let later = drop c.args.seen c.args.replica.now in
    let size : length (filter (is_of_touched later) c.items-items.result.now) ≡ count =
    ap (λ l. length (filter (is_of_touched later) l)) c.items-items.ensures
    ∙ count_again c.args.gate.now (state_of c.args.replica.now) again.graph later again.reach.all again.reach.items
    c.requires.again.graph c.requires.again.holds count counts in
    subst (λ n. g.J.Judge.asked c.owns_of.new.judge ≤ counted (g.J.Judge.asked c.args.judge.now) n) size
    c.owns_of.ensures.at_most
