use Rattle.std.proofs.Common.{◌∙◌, ap}
use Rattle.replica_core.specs.Clock.{greatest, seqs}
use Rattle.replica_core.proofs.LineLists.{no_seqs}
use Rattle.replica_core.proofs.Lookups.{line_in}
use Rattle.replica_core.proofs.replica.Replica.last_seq.Goals as goal

pub find_line-requires : goal.find_line-requires
find_line-requires g c = c.self.invariant.is_kept.lines.sorted

pub last_seq-requires : goal.last_seq-requires
last_seq-requires g c =
    let line = c.in-Some.line.now in
    (line_in c.self.inside.arrivals.items c.self.inside.lines c.self.invariant.is_kept.lines line c.in-Some.ensures.0).filed

pub returns-in-Some : goal.returns-in-Some
returns-in-Some g c =
    c.last_seq.ensures
    ∙ ap (λ r. greatest (seqs r.0 r.1 c.self.inside.arrivals.items)) c.in-Some.ensures.1
    ∙ ap (λ j. greatest (seqs c.args.row.site c.args.row.start j)) c.self.view_is

pub returns-in-None : goal.returns-in-None
returns-in-None g c =
    no_seqs c.self.inside.arrivals.items c.self.inside.lines c.self.invariant.is_kept.lines c.args.row.site c.args.row.start c.in-None.ensures
    ∙ ap (λ j. greatest (seqs c.args.row.site c.args.row.start j)) c.self.view_is
