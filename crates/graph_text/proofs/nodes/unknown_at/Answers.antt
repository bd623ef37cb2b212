use Rattle.std.proofs.Common.{rules, ◌≡◌, ◌<◌, [], Bool, true, false, Contains, cond, get_or, length, sym, ◌∙◌, subst}
use Rattle.std.proofs.Common.{arith}
use Rattle.std.proofs.lemmas.List.{get_or_default}
use Rattle.std.proofs.lemmas.Result.{IfOk-weaker}
use Rattle.walk_core.specs.Digraphs.{ends_of}
use Rattle.state_core.specs.Known.{IsKnown}
use Rattle.graph_text.specs.Places.{AreKept, AreUnknownAt, flag_at}
use Rattle.graph_text.proofs.nodes.unknown_at.Goals as goal

pub returns-then-not-index : goal.returns-then-not-index
returns-then-not-index c =
    let graph = c.args.graph.now in
    let off : flag_at c.args.near.now.ahead.items c.args.place ≡ false = search rules in
    IfOk-weaker c.unknown_among.result
    (λ unknown. AreKept (Contains []) (λ number. ¬ IsKnown c.args.state.now number) unknown.items)
    (λ unknown. AreUnknownAt c.args.state.now graph c.args.near.now.ahead.items c.args.place unknown.items)
    (λ unknown are. subst (λ b. AreKept (Contains (cond b (ends_of graph.targets c.args.place) [])) (λ number. ¬ IsKnown c.args.state.now number) unknown.items) (sym off) are)
    c.unknown_among.ensures

pub returns : goal.returns
returns c =
    let graph = c.args.graph.now in
    let ahead = c.args.near.now.ahead.items in
    let within : c.args.place < length ahead = omega (arith, c.requires.place, c.requires.sides.ahead_all) in
    let yes : c.index.result.now ≡ true = search rules in
    let here : true ≡ get_or ahead c.args.place true = subst (λ (r : Bool). r ≡ get_or ahead c.args.place r) yes c.index.ensures in
    let on : flag_at ahead c.args.place ≡ true = get_or_default ahead c.args.place false true within ∙ sym here in
    IfOk-weaker c.unknown_among-2.result (λ unknown. AreKept (Contains c.targets_at.result.now) (λ number. ¬ IsKnown c.args.state.now number) unknown.items)
    (λ unknown. AreUnknownAt c.args.state.now graph c.args.near.now.ahead.items c.args.place unknown.items)
    (λ unknown are. subst (λ b. AreKept (Contains (cond b (ends_of graph.targets c.args.place) [])) (λ number. ¬ IsKnown c.args.state.now number) unknown.items) (sym on)
    (subst (λ l. AreKept (Contains l) (λ number. ¬ IsKnown c.args.state.now number) unknown.items) c.targets_at.ensures are))
    c.unknown_among-2.ensures
