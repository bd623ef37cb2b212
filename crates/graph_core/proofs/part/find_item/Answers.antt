use Rattle.std.proofs.Common.{refl, inl, inr}
use Rattle.std.proofs.lemmas.Result.{on_ok_weaker}
use Rattle.graph_core.proofs.Closing.{found_before, found_more}
use Rattle.graph_core.proofs.part.find_item.Goals as goal

pub returns-then-not-branch : goal.returns-then-not-branch
returns-then-not-branch c = record {
  found = found_more c.args.item c.args.found.now c.insert.new.self c.in_ok-insert.ensures.updates.0 c.in_ok-insert.ensures.updates.1;
  ahead = inl (found_before c.in_ok-insert.field-0 _ c.in_ok-insert.ensures.added c.if-not-branch.true, refl);
}

pub returns : goal.returns
returns c = on_ok_weaker c.add_ends.result (λ adds. record {
  found = found_more c.args.item c.args.found.now c.insert.new.self c.in_ok-insert.ensures.updates.0 c.in_ok-insert.ensures.updates.1;
  ahead = inr adds;
}) c.add_ends.ensures
