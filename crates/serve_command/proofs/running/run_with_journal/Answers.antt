use Rattle.serve_command.proofs.running.run_with_journal.Goals as goal

pub returns-in-Ok-clause-ran : goal.returns-in-Ok-clause-ran
returns-in-Ok-clause-ran g c =
    let began = c.in-Ok.ensures in
    let held = began.kept in
    let left = c.run_with_keeper-finished.ensures.kept held.0 held.1 in record {
      begun = _;
      whole = began.whole;
      survivors = began.survivors;
      first = held.0;
      same = held.2;
      more = left.0;
      kept = left.1;
      still_known = λ known. c.run_with_keeper-finished.ensures.known (began.known known);
      leaves = left.2;
    }
