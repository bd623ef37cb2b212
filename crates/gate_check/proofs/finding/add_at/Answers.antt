use Rattle.std.proofs.Common.{◌++◌, ◌∙◌, ap}
use Rattle.gate_check.specs.Warnings.{username_warnings, vote_warnings}
use Rattle.gate_check.proofs.Texts.{after_three}
use Rattle.gate_check.proofs.finding.add_at.Goals as goal

pub returns : goal.returns
returns c =
    let place = c.args.place.now in
    let start = c.args.found.now.items in
    after_three c.add_accepted.result start (username_warnings place c.args.pattern.now.username) _
    (vote_warnings c.args.gate.now c.args.side place c.args.pattern.now) _ _ _
    (c.in_ok-add_username.ensures ∙ ap (λ u. start ++ username_warnings place u) c.username.ensures)
    c.in_ok-add_unknown.ensures c.add_accepted.ensures
