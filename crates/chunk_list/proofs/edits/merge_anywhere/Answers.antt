use Rattle.std.proofs.Common.{◌∙◌, ◌++◌, sym}
use Rattle.std.specs.Prelude.{slice_get}
use Rattle.std.specs.List.{flat_map}
use Rattle.std.proofs.lemmas.Option.{slice_get_within}
use Rattle.chunk_list.specs.Ranks.{rank}
use Rattle.chunk_list.proofs.Wholes.{is_some_there, merged_there, merged_added}
use Rattle.chunk_list.proofs.edits.merge_anywhere.Goals as goal

pub merge_there-requires-clause-there : goal.merge_there-requires-clause-there
merge_there-requires-clause-there g c =
    let test = g.T.Probe.passes c.args.entry in
    let whole = c.args.first.now.items ++ flat_map (λ chunk. chunk.items) c.args.rest.now.items in
    let there = is_some_there (g.T.Entry.meets c.args.entry) (slice_get whole (rank test whole)) (sym c.has.ensures ∙ c.if-has.true) in
    slice_get_within whole (rank test whole) there.0 there.1

pub returns-then-has-clause-merged : goal.returns-then-has-clause-merged
returns-then-has-clause-merged g c =
    let whole = c.args.first.now.items ++ flat_map (λ chunk. chunk.items) c.args.rest.now.items in
    merged_there (g.T.Probe.passes c.args.entry) (g.T.Entry.meets c.args.entry) (g.T.Entry.merges c.args.entry) c.args.entry c.merge_there.result whole _
    (sym c.has.ensures ∙ c.if-has.true) c.merge_there.ensures.merged

pub returns-clause-merged : goal.returns-clause-merged
returns-clause-merged g c =
    let whole = c.args.first.now.items ++ flat_map (λ chunk. chunk.items) c.args.rest.now.items in
    merged_added (g.T.Probe.passes c.args.entry) (g.T.Entry.meets c.args.entry) (g.T.Entry.merges c.args.entry) c.args.entry c.add_entry.result whole _
    (sym c.has.ensures ∙ c.if-has.false) c.add_entry.ensures.ok c.add_entry.ensures.err
