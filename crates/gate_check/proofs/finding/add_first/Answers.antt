use Rattle.std.proofs.Common.{◌≡◌, ◌++◌, ◌∙◌, ap, codes, subst}
use Rattle.std.specs.Prelude.{OnOk}
use Rattle.gate_check.specs.Meeting.{is_current_never_met, is_open_never_met, is_status_never_met}
use Rattle.gate_check.specs.Warnings.{key_warnings}
use Rattle.gate_check.proofs.Texts.{after_three}
use Rattle.gate_check.proofs.finding.add_first.Goals as goal

pub returns : goal.returns
returns c =
    let gate = c.args.gate.now in
    let side = c.args.side in
    let start = c.args.found.now.items in
    let one = c.add_key.new.found.items in
    let two = c.add_key-2.new.found.items in
    after_three c.add_key-3.result start (key_warnings gate side (codes "open") (is_open_never_met gate side))
    (key_warnings gate side (codes "current-patchset") (is_current_never_met gate side))
    (key_warnings gate side (codes "status") (is_status_never_met gate side)) one two _
    (c.in_ok-add_key.ensures ∙ ap (λ b. start ++ key_warnings gate side (codes "open") b) c.is_open_never_met-is_open.ensures)
    (c.in_ok-add_key-2.ensures ∙ ap (λ b. one ++ key_warnings gate side (codes "current-patchset") b) c.is_current_never_met-is_current.ensures)
    (subst (λ b. OnOk c.add_key-3.result (c.add_key-3.new.found.items ≡ two ++ key_warnings gate side (codes "status") b)) c.is_status_never_met-is_status.ensures c.add_key-3.ensures)
