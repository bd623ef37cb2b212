use Rattle.std.proofs.Common.{sym}
use Rattle.watch_core.proofs.Local.{same_current, same_item, same_names, same_own}
use Rattle.watch_core.proofs.Stays.{stays_merged, stays_same}
use Rattle.watch_core.proofs.laws.untouched_changes_stay.Goals as goal

pub returns-clause-same : goal.returns-clause-same
returns-clause-same c = stays_same

pub returns-clause-items : goal.returns-clause-items
returns-clause-items c = λ journal later item untouched.
    let same = stays_same journal later item.change untouched in
    (same_item _ _ item same, same_item _ _ item (sym same))

pub returns-clause-current : goal.returns-clause-current
returns-clause-current c = λ journal later item untouched.
    let same = stays_same journal later item.change untouched in
    (same_current _ _ item same, same_current _ _ item (sym same))

pub returns-clause-own : goal.returns-clause-own
returns-clause-own c = λ gate journal later item untouched own.
    let same = stays_same journal later item.change untouched in
    (same_own gate _ _ item own same, same_own gate _ _ item own (sym same))

pub returns-clause-names : goal.returns-clause-names
returns-clause-names c = λ gate journal later item untouched number.
    let same = stays_same journal later item.change untouched in
    (same_names gate _ _ item number same, same_names gate _ _ item number (sym same))

pub returns-clause-merged : goal.returns-clause-merged
returns-clause-merged c = stays_merged
