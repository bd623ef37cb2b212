-- The change and its current patch set are what the state says.
use Rattle.std.proofs.Common.{◌≡◌, ◌∙◌, ℕ, ap, sym, subst, arith, rules}
use Rattle.change_core.specs.Change.{Change}
use Rattle.change_core.specs.Views.{IsCurrent, IsGreatestKnown}
use Rattle.gate_rules.specs.Own.{ItemStanding, standing_of}
use Rattle.gate_rules.specs.Tried.{tried_of}
use Rattle.gate_rules.proofs.gate.Gate.conditions.Goals as goal

pub returns : goal.returns
returns c = λ change current at greatest.
    let here = c.unwrap-change.result.now in
    let mine = c.unwrap-current.result in
    let set = c.args.item.set in
    let same : here ≡ change = search (rules, at) in
    let is : IsGreatestKnown here mine = search rules in
    let is_here : IsGreatestKnown change mine = subst (λ (x : Change). IsGreatestKnown x mine) same is in
    let one : mine ≡ current = omega (arith, is_here.greatest current greatest.known, greatest.greatest mine is_here.known) in
    let stands : c.new.result ≡ standing_of change current set =
    c.new.ensures ∙ ap (λ (x : Change). standing_of x mine set) same ∙ ap (λ (n : ℕ). standing_of change n set) one in
    c.in_ok-tried.ensures ∙ ap (λ (x : ItemStanding). tried_of c.args.self.now x) stands
