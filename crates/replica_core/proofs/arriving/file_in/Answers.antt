use Rattle.std.proofs.Common.{◌≡◌, ◌∙◌, ℕ, set, ap, sym, subst}
use Rattle.std.specs.Prelude.{slice_get}
use Rattle.std.proofs.lemmas.Result.{on_err_weaker}
use Rattle.replica_core.specs.Lines.{row_of, AreLines}
use Rattle.replica_core.specs.Searches.{line_rank}
use Rattle.replica_core.proofs.Absorbing.{if_ok}
use Rattle.replica_core.proofs.Exchanged.{never_none, out_there, out_row, still_sorted, back_in, as_it_was, changed}
use Rattle.replica_core.proofs.Lookups.{line_in}
use Rattle.replica_core.proofs.arriving.file_in.Goals as goal

pub exchange-requires : goal.exchange-requires
exchange-requires g c = c.requires.lines.sorted

pub unreachable-requires : goal.unreachable-requires
unreachable-requires g c =
    let lines = c.args.lines.now in
    let row : ℕ × ℕ = (c.args.op.stamp.site, c.args.op.stamp.start) in
    let own : row_of c.new.result ≡ row = ap row_of c.new.ensures ∙ ap (λ r. (r.site, r.start)) c.row_of.ensures in
    never_none lines c.requires.lines.sorted row c.requires.row
    (sym c.in_default.is ∙ c.exchange.ensures.found ∙ ap (λ r. slice_get lines (line_rank lines r)) own)

pub file-taken-requires-clause-line : goal.file-taken-requires-clause-line
file-taken-requires-clause-line g c =
    let lines = c.args.lines.now in
    let row : ℕ × ℕ = (c.args.op.stamp.site, c.args.op.stamp.start) in
    let own : row_of c.new.result ≡ row = ap row_of c.new.ensures ∙ ap (λ r. (r.site, r.start)) c.row_of.ensures in
    line_in c.args.arrivals.now.items lines c.requires.lines c.in-Some.line
    (out_there lines c.requires.lines.sorted row c.requires.row c.in-Some.line (c.in-Some.ensures.found ∙ ap (λ r. slice_get lines (line_rank lines r)) own))

pub file-taken-requires-clause-row : goal.file-taken-requires-clause-row
file-taken-requires-clause-row g c =
    let lines = c.args.lines.now in
    let row : ℕ × ℕ = (c.args.op.stamp.site, c.args.op.stamp.start) in
    let own : row_of c.new.result ≡ row = ap row_of c.new.ensures ∙ ap (λ r. (r.site, r.start)) c.row_of.ensures in
    out_row lines c.requires.lines.sorted row c.requires.row c.in-Some.line
    (c.in-Some.ensures.found ∙ ap (λ r. slice_get lines (line_rank lines r)) own)

pub exchange-empty-requires : goal.exchange-empty-requires
exchange-empty-requires g c =
    let lines = c.args.lines.now in
    let row : ℕ × ℕ = (c.args.op.stamp.site, c.args.op.stamp.start) in
    let own : row_of c.new.result ≡ row = ap row_of c.new.ensures ∙ ap (λ r. (r.site, r.start)) c.row_of.ensures in
    still_sorted lines c.requires.lines.sorted row c.requires.row c.new.result own c.exchange.new.lines
    (c.in-Some.ensures.lines ∙ ap (λ r. set lines (line_rank lines r) c.new.result) own)

pub returns-clause-ok : goal.returns-clause-ok
returns-clause-ok g c =
    let lines = c.args.lines.now in
    let op = c.args.op in
    let row : ℕ × ℕ = (op.stamp.site, op.stamp.start) in
    let sorted = c.requires.lines.sorted in
    let own : row_of c.new.result ≡ row = ap row_of c.new.ensures ∙ ap (λ r. (r.site, r.start)) c.row_of.ensures in
    let out = out_row lines sorted row c.requires.row c.in-Some.line (c.in-Some.ensures.found ∙ ap (λ r. slice_get lines (line_rank lines r)) own) in
    let without = c.in-Some.ensures.lines ∙ ap (λ r. set lines (line_rank lines r) c.new.result) own in
    if_ok c.file-taken.result (λ taken h. (
      h.0,
      h.1,
      subst (AreLines c.file-taken.new.arrivals.items)
          (sym (back_in lines sorted row c.requires.row c.new.result own c.exchange.new.lines c.exchange-empty.new.lines c.file-taken.new.line without (h.3 ∙ out) c.exchange-empty.ensures.lines))
          (changed lines sorted row c.requires.row c.args.arrivals.now.items c.file-taken.new.arrivals.items op c.file-taken.new.line c.requires.lines (λ i. row) (h.3 ∙ out) h.1 h.2),
      h.4,
    )) c.file-taken.ensures.ok

pub returns-clause-err : goal.returns-clause-err
returns-clause-err g c =
    let lines = c.args.lines.now in
    let op = c.args.op in
    let row : ℕ × ℕ = (op.stamp.site, op.stamp.start) in
    let sorted = c.requires.lines.sorted in
    let own : row_of c.new.result ≡ row = ap row_of c.new.ensures ∙ ap (λ r. (r.site, r.start)) c.row_of.ensures in
    let found = c.in-Some.ensures.found ∙ ap (λ r. slice_get lines (line_rank lines r)) own in
    let without = c.in-Some.ensures.lines ∙ ap (λ r. set lines (line_rank lines r) c.new.result) own in
    on_err_weaker c.file-taken.result (λ h. (
      h.0,
      as_it_was lines sorted row c.requires.row c.new.result own c.exchange.new.lines c.exchange-empty.new.lines c.in-Some.line c.file-taken.new.line found without h.1 c.exchange-empty.ensures.lines,
      h.2,
    )) c.file-taken.ensures.err
