use Rattle.std.proofs.Common.{◌≡◌, ◌∙◌, Some, ap, flat_map, refl, sym}
use Rattle.lattice_core.specs.MemberLaws.{Contains-to_map}
use Rattle.json_line.specs.Adding.{adds_same, adds_then}
use Rattle.ready_core.specs.declared.verdicts.Left.{Left}
use Rattle.report_json.specs.Report.{out_tokens, verdict_members}
use Rattle.report_json.proofs.why.put_left.Goals as goal

pub add_cause-requires-clause-there : goal.add_cause-requires-clause-there
add_cause-requires-clause-there c =
    let cause = c.in_ok-chain.chain.cause in
    ((c.requires.judged.out cause.item).0 (Contains-to_map (λ (left : Left). left.item) c.args.verdicts.now.out cause c.in_ok-chain.ensures.chain.out)).0

one_of : (a b : Left) → Some a ≡ Some b → a ≡ b
one_of a b e = cc

pub returns : goal.returns
returns c =
    let chain = c.in_ok-chain.ensures in
    let cause = c.in_ok-add_cause.ensures in
    let first = one_of c.first_of.result chain.first (sym c.first_of.ensures ∙ chain.chain.begins) in (
      _,
      adds_then (adds_same c.in_ok-put_verdict.ensures (ap verdict_members first))
          (adds_then c.in_ok-open_list.ensures (adds_then (adds_then (adds_same c.in_ok-add_all_out.ensures (ap (flat_map out_tokens) c.as_slice.ensures.value)) cause.1) c.in_ok-close_list.ensures)),
      record {
        waiting = c.in_ok-chain.chain.waiting.items;
        cause = c.in_ok-chain.chain.cause;
        chain = chain;
        details = cause.0;
        shown = cause.2;
        members = refl;
      },
    )
