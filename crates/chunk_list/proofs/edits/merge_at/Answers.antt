use Rattle.std.proofs.Common.{◌≡◌, ◌∙◌, true, false, Some, set, ap, subst, sym, arith}
use Rattle.std.specs.Prelude.{slice_get}
use Rattle.std.specs.List.{insert}
use Rattle.std.proofs.lemmas.Option.{get_or_from_slice_get}
use Rattle.std.proofs.lemmas.Result.{on_ok_weaker}
use Rattle.chunk_list.specs.RankLaws.{rank-le}
use Rattle.chunk_list.specs.Chunks.{is_some_passing}
use Rattle.chunk_list.proofs.Wholes.{is_some_there, merged_there, merged_added}
use Rattle.chunk_list.proofs.edits.merge_at.Goals as goal

pub add_at-requires : goal.add_at-requires
add_at-requires g c = omega (arith, c.requires, rank-le (g.T.Probe.passes c.args.entry) c.args.chunk.now.items)

pub returns-then-meets_at : goal.returns-then-meets_at
returns-then-meets_at g c =
    let test = g.T.Probe.passes c.args.entry in
    let meets = g.T.Entry.meets c.args.entry in
    let items = c.args.chunk.now.items in
    let index = c.args.index in
    let found = c.index_mut.result.now in
    let kept = c.merge_into.new.held in
    let met : is_some_passing meets (slice_get items index) ≡ true = ap (λ l. is_some_passing meets (slice_get l index)) (sym c.as_slice.ensures.value) ∙ sym c.meets_at.ensures.met ∙ c.if-meets_at.true in
    let there = is_some_there meets (slice_get items index) met in
    let is_held : found ≡ there.0 = c.index_mut.ensures.value ∙ get_or_from_slice_get items index there.0 found there.1 in
    merged_there test meets (g.T.Entry.merges c.args.entry) c.args.entry c.merge_into.result items _
    (subst (λ n. is_some_passing meets (slice_get items n) ≡ true) c.requires met)
    (found, kept, subst (λ n. slice_get items n ≡ Some found) c.requires (there.1 ∙ ap Some (sym is_held)), c.merge_into.ensures, ap (λ n. set items n kept) c.requires)

pub returns : goal.returns
returns g c =
    let test = g.T.Probe.passes c.args.entry in
    let meets = g.T.Entry.meets c.args.entry in
    let items = c.args.chunk.now.items in
    let index = c.args.index in
    let unmet : is_some_passing meets (slice_get items index) ≡ false = ap (λ l. is_some_passing meets (slice_get l index)) (sym c.as_slice.ensures.value) ∙ sym c.meets_at.ensures.met ∙ c.if-meets_at.false in
    merged_added test meets (g.T.Entry.merges c.args.entry) c.args.entry c.add_at.result items _
    (subst (λ n. is_some_passing meets (slice_get items n) ≡ false) c.requires unmet)
    (on_ok_weaker c.add_at.result (λ e. e ∙ ap (λ n. insert items n c.args.entry) c.requires) c.add_at.ensures.ok)
    c.add_at.ensures.err
