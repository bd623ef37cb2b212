use Rattle.std.proofs.Common.{◌∙◌, ap, sym, subst}
use Rattle.std.specs.List.{Contains}
use Rattle.replica_core.specs.Journal.{has}
use Rattle.replica_core.specs.Lines.{rows_of}
use Rattle.replica_core.proofs.Filing.{has_row}
use Rattle.replica_core.proofs.Lookups.{line_in, has_none}
use Rattle.replica_core.proofs.replica.Replica.has.Goals as goal

pub find_line-requires : goal.find_line-requires
find_line-requires g c = c.self.invariant.is_kept.lines.sorted

pub has-requires : goal.has-requires
has-requires g c =
    let journal = c.self.inside.arrivals.items in
    let line = c.in-Some.line.now in
    (line_in journal c.self.inside.lines c.self.invariant.is_kept.lines line c.in-Some.ensures.0).filed

pub returns-in-Some : goal.returns-in-Some
returns-in-Some g c =
    let journal = c.self.inside.arrivals.items in
    let line = c.in-Some.line.now in
    let op = c.args.op.now in
    c.has.ensures
    ∙ has_row journal line
    (line_in journal c.self.inside.lines c.self.invariant.is_kept.lines line c.in-Some.ensures.0).filed op
    (c.in-Some.ensures.1 ∙ ap (λ row. (row.site, row.start)) c.row_of.ensures)
    ∙ ap (λ j. has j op) c.self.view_is

pub returns-in-None : goal.returns-in-None
returns-in-None g c =
    let lines = c.self.inside.lines in
    let op = c.args.op.now in
    sym (has_none c.self.inside.arrivals.items lines c.self.invariant.is_kept.lines op (λ there. c.in-None.ensures (subst (λ row. Contains (rows_of lines) (row.site, row.start)) (sym c.row_of.ensures) there)))
    ∙ ap (λ j. has j op) c.self.view_is
