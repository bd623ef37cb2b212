use Rattle.report_changes.proofs.laws.verdicts_name_each_once.Goals as goal

pub returns : goal.returns
returns c = λ gate state verdicts are. record {
  apart = λ item ready out. ((are.out item).0 out).1 ((are.ready item).0 ready);
  in_order = are.out_in_order;
}
