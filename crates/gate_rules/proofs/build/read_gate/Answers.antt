use Rattle.std.proofs.Common.{is_some, sym, ap, ◌∙◌}
use Rattle.std.proofs.lemmas.Result.{err_from_is_err_and}
use Rattle.serde_json.specs.View.{members_view}
use Rattle.gate_rules.specs.Walk.{gate_fault}
use Rattle.gate_rules.proofs.Bases.{bases_told}
use Rattle.gate_rules.proofs.Spelled.{item_of_fault, item_unread, refused_by}
use Rattle.gate_rules.proofs.build.read_gate.Goals as goal

pub returns-in-Some-clause-refused : goal.returns-in-Some-clause-refused
returns-in-Some-clause-refused c =
    let members = members_view c.in_ok-members.members.entries in
    refused_by c.args.bytes.now c.blamed.result (c.in-Some.flaw, c.in-Some.key.now) c.blamed.ensures.key (record {
      members = members;
      is_object = c.in_ok-members.ensures.ok;
      has_bases = is_some c.in_ok-bases.bases;
      bases = bases_told members c.in_ok-bases.bases c.in_ok-bases.ensures;
      first = ap (λ has. gate_fault has members) (sym c.is_some.ensures) ∙ sym c.in-Some.ensures;
    }) c.blamed.ensures.bad

pub returns-in-Some-clause-item : goal.returns-in-Some-clause-item
returns-in-Some-clause-item c =
    let members = members_view c.in_ok-members.members.entries in
    item_of_fault c.args.bytes.now (c.in-Some.flaw, c.in-Some.key.now) (record {
      members = members;
      is_object = c.in_ok-members.ensures.ok;
      has_bases = is_some c.in_ok-bases.bases;
      bases = bases_told members c.in_ok-bases.bases c.in_ok-bases.ensures;
      first = ap (λ has. gate_fault has members) (sym c.is_some.ensures) ∙ sym c.in-Some.ensures;
    }) c.blamed.result c.blamed.ensures.item

pub returns-in_err-members-clause-item : goal.returns-in_err-members-clause-item
returns-in_err-members-clause-item c =
    let p = err_from_is_err_and c.from_residual.result c.from_residual.ensures.1 in
    rw (p.1, p.2)
    (item_unread c.args.bytes.now _ c.in_err-members.ensures.err c.in_err-members.ensures.unread)
