use Rattle.std.proofs.Common.{◌∙◌, max, ap, refl, sym, subst}
use Rattle.std.specs.List.{Contains}
use Rattle.replica_core.specs.Lines.{rows_of, AreLines}
use Rattle.replica_core.proofs.Effects.{kept_same, kept_new}
use Rattle.replica_core.proofs.arriving.arrive.Goals as goal

pub open_line-requires : goal.open_line-requires
open_line-requires g c = c.requires.lines.sorted

pub file_in-requires-clause-lines : goal.file_in-requires-clause-lines
file_in-requires-clause-lines g c = c.open_line.ensures.kept c.args.arrivals.now.items c.requires.lines

pub file_in-requires-clause-row : goal.file_in-requires-clause-row
file_in-requires-clause-row g c = subst (λ row. Contains (rows_of c.open_line.new.lines) (row.site, row.start)) c.row_of.ensures c.in_ok-open_line.ensures.ok

pub returns-in_err-open_line-clause-kept : goal.returns-in_err-open_line-clause-kept
returns-in_err-open_line-clause-kept g c =
    let journal = c.args.arrivals.now.items in
    kept_same journal journal c.args.lines.now c.open_line.new.lines c.args.latest.now refl
    (c.open_line.ensures.kept journal c.requires.lines) c.requires

pub returns-in_err-file_in-clause-kept : goal.returns-in_err-file_in-clause-kept
returns-in_err-file_in-clause-kept g c =
    let journal = c.args.arrivals.now.items in
    let err = c.in_err-file_in.ensures.err in
    kept_same journal c.file_in.new.arrivals.items c.args.lines.now c.file_in.new.lines c.args.latest.now err.0
    (subst (λ j. AreLines j c.file_in.new.lines) (sym err.0) (subst (AreLines journal) (sym err.1) (c.open_line.ensures.kept journal c.requires.lines))) c.requires

pub returns-in-New-clause-kept : goal.returns-in-New-clause-kept
returns-in-New-clause-kept g c =
    let ok = c.in_ok-file_in.ensures.ok in
    kept_new c.args.arrivals.now.items c.file_in.new.arrivals.items c.args.lines.now c.file_in.new.lines c.args.latest.now c.args.op
    c.in_ok-file_in.field-0 ok.0 ok.1 ok.2 c.requires c.in-New.is c.max.result
    (c.max.ensures ∙ ap (max c.args.latest.now) (c.time-time.ensures ∙ ap (λ s. s.time) c.stamp.ensures.value))
