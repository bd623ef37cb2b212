use Rattle.std.proofs.Common.{◌∙◌, ap, sym, subst}
use Rattle.std.specs.List.{Contains}
use Rattle.replica_core.specs.Journal.{has_stamp}
use Rattle.replica_core.specs.Lines.{rows_of}
use Rattle.replica_core.proofs.Lookups.{line_in, has_stamp_row, has_stamp_none}
use Rattle.replica_core.proofs.replica.Replica.has_stamp.Goals as goal

pub find_line-requires : goal.find_line-requires
find_line-requires g c = c.self.invariant.is_kept.lines.sorted

pub has_stamp-requires : goal.has_stamp-requires
has_stamp-requires g c =
    let journal = c.self.inside.arrivals.items in
    let line = c.in-Some.line.now in
    (line_in journal c.self.inside.lines c.self.invariant.is_kept.lines line c.in-Some.ensures.0).filed

pub returns-in-Some : goal.returns-in-Some
returns-in-Some g c =
    let journal = c.self.inside.arrivals.items in
    let line = c.in-Some.line.now in
    c.has_stamp.ensures
    ∙ has_stamp_row journal line
    (line_in journal c.self.inside.lines c.self.invariant.is_kept.lines line c.in-Some.ensures.0).filed c.args.stamp
    (c.in-Some.ensures.1 ∙ (λ i. (c.site.ensures i, c.start.ensures i)))
    ∙ ap (λ j. has_stamp j c.args.stamp) c.self.view_is

pub returns-in-None : goal.returns-in-None
returns-in-None g c =
    let lines = c.self.inside.lines in
    sym (has_stamp_none c.self.inside.arrivals.items lines c.self.invariant.is_kept.lines c.args.stamp (λ there. c.in-None.ensures (subst (Contains (rows_of lines)) (λ i. (sym c.site.ensures i, sym c.start.ensures i)) there)))
    ∙ ap (λ j. has_stamp j c.args.stamp) c.self.view_is
