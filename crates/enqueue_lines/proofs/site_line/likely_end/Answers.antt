use Rattle.std.proofs.Common.{◌≡◌, ◌∙◌, arith, Some, decimal}
use Rattle.enqueue_lines.proofs.Numbers.{counts_made, counts_pieces, lacks_digits, no_value}
use Rattle.enqueue_lines.proofs.site_line.likely_end.Goals as goal

pub returns-in_err-ready : goal.returns-in_err-ready
returns-in_err-ready c = λ ready out small few is.
    absurd (c.in_err-ready.ensures (decimal ready) (decimal out) (lacks_digits 32 ready small (omega arith)) (is ∙ counts_pieces ready out))

pub returns-in_err-ready-2 : goal.returns-in_err-ready-2
returns-in_err-ready-2 c = λ ready out small few is.
    let parts = c.in_ok-ready.ensures (decimal ready) (decimal out) (lacks_digits 32 ready small (omega arith)) (is ∙ counts_pieces ready out) in
    absurd (no_value ready (c.in_err-ready-2.ensures ready small parts.0))

pub returns-in_err-out : goal.returns-in_err-out
returns-in_err-out c = λ ready out small few is.
    let parts = c.in_ok-ready.ensures (decimal ready) (decimal out) (lacks_digits 32 ready small (omega arith)) (is ∙ counts_pieces ready out) in
    absurd (no_value out (c.in_err-out.ensures out few parts.1))

pub returns : goal.returns
returns c = λ ready out small few is.
    let parts = c.in_ok-ready.ensures (decimal ready) (decimal out) (lacks_digits 32 ready small (omega arith)) (is ∙ counts_pieces ready out) in
    let one : Some c.in_ok-ready-2.ready ≡ Some ready = c.in_ok-ready-2.ensures ready small parts.0 in
    let two : Some c.in_ok-out.out ≡ Some out = c.in_ok-out.ensures out few parts.1 in
    counts_made c.in_ok-ready-2.ready c.in_ok-out.out ready out (cc (one)) (cc (two))
