use Rattle.std.proofs.Common.{◌≡◌, ◌∙◌, arith, Some, decimal}
use Rattle.enqueue_lines.proofs.Numbers.{item_made, item_pieces, lacks_digits, no_value}
use Rattle.enqueue_lines.proofs.site_line.likely_item.Goals as goal

pub returns-in_err-change : goal.returns-in_err-change
returns-in_err-change c = λ item short is.
    absurd (c.in_err-change.ensures (decimal item.change) (decimal item.set) (lacks_digits 44 item.change (omega (arith, short.change)) (omega arith)) (is ∙ item_pieces item))

pub returns-in_err-change-2 : goal.returns-in_err-change-2
returns-in_err-change-2 c = λ item short is.
    let parts = c.in_ok-change.ensures (decimal item.change) (decimal item.set) (lacks_digits 44 item.change (omega (arith, short.change)) (omega arith)) (is ∙ item_pieces item) in
    absurd (no_value item.change (c.in_err-change-2.ensures item.change short.change parts.0))

pub returns-in_err-set : goal.returns-in_err-set
returns-in_err-set c = λ item short is.
    let parts = c.in_ok-change.ensures (decimal item.change) (decimal item.set) (lacks_digits 44 item.change (omega (arith, short.change)) (omega arith)) (is ∙ item_pieces item) in
    absurd (no_value item.set (c.in_err-set.ensures item.set short.set parts.1))

pub returns : goal.returns
returns c = λ item short is.
    let parts = c.in_ok-change.ensures (decimal item.change) (decimal item.set) (lacks_digits 44 item.change (omega (arith, short.change)) (omega arith)) (is ∙ item_pieces item) in
    let one : Some c.in_ok-change-2.change ≡ Some item.change = c.in_ok-change-2.ensures item.change short.change parts.0 in
    let two : Some c.in_ok-set.set ≡ Some item.set = c.in_ok-set.ensures item.set short.set parts.1 in
    item_made c.in_ok-change-2.change c.in_ok-set.set item (cc (one)) (cc (two))
