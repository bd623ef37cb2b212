use Rattle.std.proofs.Common.{◌≡◌, ◌++◌, List, ℕ, append_assoc, codes, length, subst}
use Rattle.std.specs.Prelude.{decimal}
use Rattle.markup_text.specs.Growing.{Adds}
use Rattle.page_text.specs.Answer.{event_text}
use Rattle.page_text.proofs.Adding.{adds_all}
use Rattle.page_text.proofs.json_status.events_text.Goals as goal

-- the parts of the event, one after the other
parts_of : (ready out operations : ℕ)
    → codes "retry: 2000\ndata: {\"ready\":" ++ (decimal ready ++ (codes ",\"out\":" ++ (decimal out
    ++ (codes ",\"operations\":" ++ (decimal operations ++ codes "}\n\n")))))
    ≡ event_text ready out operations
parts_of ready out operations = simp append_assoc

pub returns : goal.returns
returns c =
    let verdicts = c.args.verdicts.now in
    let ready = length verdicts.ready in
    let out = length verdicts.out in
    let operations = length c.args.replica.now in
    adds_all c.new-text.result c.add.new.self (event_text ready out operations) c.in_ok-bytes.bytes.items
    c.new-text.ensures
    (subst (λ (text : List ℕ). Adds text c.new-text.result c.add.new.self) (parts_of ready out operations)
    (rw (c.ready-ready.ensures, c.out-out.ensures, c.len-operations.ensures) at c.add.ensures)) c.in_ok-bytes.ensures
