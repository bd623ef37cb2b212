use Rattle.std.proofs.Common.{◌∙◌, ap, sym}
use Rattle.std.specs.Prelude.{slice_get}
use Rattle.std.specs.Option.{option_copied}
use Rattle.chunk_list.specs.Ranks.{rank}
use Rattle.replica_core.specs.Lines.{ops_of}
use Rattle.replica_core.specs.Searches.{is_before, passes_at}
use Rattle.replica_core.proofs.Sought.{before_falls}
use Rattle.replica_core.proofs.Filed.{placed_parts, placed_rank, placed_op, placed_none}
use Rattle.replica_core.proofs.line.Line.from_stamp.Goals as goal

pub first_failing-requires : goal.first_failing-requires
first_failing-requires g c =
    let line = c.args.self.now in
    let op = c.args.stamp in
    placed_parts c.args.arrivals.now.items line c.requires (is_before op)
    (before_falls line.site line.start op) c.self.inside.places (ap (λ l. l.places) c.self.view_is)

pub returns-in_err-place : goal.returns-in_err-place
returns-in_err-place g c =
    let journal = c.args.arrivals.now.items in
    let line = c.args.self.now in
    let op = c.args.stamp in
    let places = c.self.inside.places in
    let are = ap (λ l. l.places) c.self.view_is in
    ap option_copied c.from_residual.ensures ∙ placed_none journal line c.requires places are
    (rank (passes_at (is_before op) journal) places) c.in_err-place.ensures
    ∙ ap (slice_get (ops_of journal line))
    (placed_rank journal line c.requires (is_before op) (before_falls line.site line.start op) places are)

pub returns : goal.returns
returns g c =
    let journal = c.args.arrivals.now.items in
    let line = c.args.self.now in
    let op = c.args.stamp in
    let places = c.self.inside.places in
    let are = ap (λ l. l.places) c.self.view_is in
    let place = c.in_ok-place.field-0 in
    c.get.ensures
    ∙ sym (placed_op journal line c.requires places are (rank (passes_at (is_before op) journal) places) place.now c.in_ok-place.ensures)
    ∙ ap (slice_get (ops_of journal line))
    (placed_rank journal line c.requires (is_before op) (before_falls line.site line.start op) places are)
