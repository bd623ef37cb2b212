use Rattle.ready_core.proofs.laws.ready_items_are_the_greatest_closed_set.Goals as goal

pub returns-clause-closed : goal.returns-clause-closed
returns-clause-closed c = λ gate state verdicts are. record {
  members = λ item has. let ready = (are.ready item).0 has in ready.closed.members item ready.has;
  ends = λ item other has edge.
      let ready = (are.ready item).0 has in
      (are.ready other).1
      (record { set = ready.set; closed = ready.closed; has = ready.closed.ends item other ready.has edge });
}

pub returns-clause-greatest : goal.returns-clause-greatest
returns-clause-greatest c =
    λ gate state verdicts are set closed item has. (are.ready item).1 (record { set = set; closed = closed; has = has })
