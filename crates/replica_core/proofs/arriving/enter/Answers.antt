use Rattle.std.proofs.Common.{◌≡◌, ◌∙◌, false, length, ap, sym, subst, arith}
use Rattle.std.specs.List.{insert, remove}
use Rattle.std.specs.List.Sorted.{IsPartitionedBy}
use Rattle.std.proofs.lemmas.Option.{slice_get_past}
use Rattle.chunk_list.specs.Chunks.{is_some_passing}
use Rattle.chunk_list.specs.Ranks.{rank}
use Rattle.chunk_list.specs.RankLaws.{rank-le, rank-inserted, parted_inserted, remove-inserted}
use Rattle.replica_core.specs.RowLine.{RowLine}
use Rattle.replica_core.specs.Lines.{ops_of}
use Rattle.replica_core.specs.Searches.{is_below, passes_at}
use Rattle.replica_core.proofs.Absorbing.{at_err, at_no_err}
use Rattle.replica_core.proofs.Filed.{placed_parts, placed_rank}
use Rattle.replica_core.proofs.Sought.{below_falls}
use Rattle.replica_core.proofs.arriving.enter.Goals as goal

pub insert-requires : goal.insert-requires
insert-requires g c =
    placed_parts c.args.arrivals.now.items c.args.line.now c.requires (is_below c.args.op.now)
    (λ x y of_x of_y. below_falls c.args.op.now x y) c.line.inside.places (ap (λ l. l.places) c.line.view_is)

pub remove-place-requires : goal.remove-place-requires
remove-place-requires g c =
    let journal = c.args.arrivals.now.items in
    let op = c.args.op.now in
    let test = passes_at (is_below op) journal in
    let places = c.line.inside.places in
    let place = c.len.result in
    let fails : test place ≡ false = ap test c.len.ensures ∙ ap (is_some_passing (is_below op)) (slice_get_past journal (length journal) (omega arith)) in
    subst (IsPartitionedBy test) (sym c.in_ok-insert.ensures.ok)
    (parted_inserted test places place fails (placed_parts journal c.args.line.now c.requires (is_below op) (λ x y of_x of_y. below_falls op x y) places (ap (λ l. l.places) c.line.view_is)))

pub returns-then-is_err-clause-err : goal.returns-then-is_err-clause-err
returns-then-is_err-clause-err g c =
    let journal = c.args.arrivals.now.items in
    let op = c.args.op.now in
    let test = passes_at (is_below op) journal in
    let inside = c.line.inside in
    let places = inside.places in
    let place = c.len.result in
    let fails : test place ≡ false = ap test c.len.ensures ∙ ap (is_some_passing (is_below op)) (slice_get_past journal (length journal) (omega arith)) in
    let back : c.remove-place.new.self ≡ places =
    c.remove-place.ensures.rest ∙ ap (λ l. remove l (rank test l)) c.in_ok-insert.ensures.ok
    ∙ ap (remove (insert places (rank test places) place))
    (rank-inserted test places place fails)
    ∙ remove-inserted places (rank test places) place (rank-le test places) in
    (ap (λ p. record { site = inside.row.site; start = inside.row.start; places = p; reach = inside.reach }) back ∙ c.line.view_is, at_err c.follow.result c.is_err.result c.is_err.ensures.value c.if-is_err.true c.follow.ensures.err)

pub returns-clause-ok : goal.returns-clause-ok
returns-clause-ok g c =
    let journal = c.args.arrivals.now.items in
    let line = c.args.line.now in
    let op = c.args.op.now in
    let test = passes_at (is_below op) journal in
    let inside = c.line.inside in
    let are = ap (λ l. l.places) c.line.view_is in
    let index = rank (is_below op) (ops_of journal line) in
    let added : c.insert.new.self ≡ insert line.places index (length journal) =
    c.in_ok-insert.ensures.ok
    ∙ ap (insert inside.places (rank test inside.places)) c.len.ensures
    ∙ ap (λ n. insert inside.places n (length journal))
    (placed_rank journal line c.requires (is_below op) (λ x y of_x of_y. below_falls op x y) inside.places are)
    ∙ ap (λ l. insert l index (length journal)) are in (
      ap (λ p. record { site = inside.row.site; start = inside.row.start; places = p; reach = inside.reach }) added
          ∙ ap (λ (l : RowLine). record { site = l.site; start = l.start; places = insert line.places index (length journal); reach = l.reach }) c.line.view_is,
      at_no_err c.follow.result c.is_err.result c.is_err.ensures.value c.if-is_err.false c.follow.ensures.ok,
    )
