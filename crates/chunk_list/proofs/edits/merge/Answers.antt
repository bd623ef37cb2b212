use Rattle.std.proofs.Common.{◌<◌, ◌∙◌, inl, inr, length, ap, subst}
use Rattle.std.specs.List.{flat_map}
use Rattle.chunk_list.specs.Ranks.{rank}
use Rattle.chunk_list.proofs.Wholes.{merged_here, merged_alone}
use Rattle.chunk_list.proofs.edits.merge.Goals as goal

pub merge_at-requires : goal.merge_at-requires
merge_at-requires g c = c.passing-index.ensures ∙ ap (rank (g.T.Probe.passes c.args.entry)) c.as_slice.ensures.value

pub returns-then-is_of_first-clause-merged : goal.returns-then-is_of_first-clause-merged
returns-then-is_of_first-clause-merged g c =
    let test = g.T.Probe.passes c.args.entry in
    let meets = g.T.Entry.meets c.args.entry in
    let merges = g.T.Entry.merges c.args.entry in
    let first = c.args.first.now.items in
    let rest = flat_map (λ chunk. chunk.items) c.args.rest.now.items in
    let is = c.passing-index.ensures ∙ ap (rank test) c.as_slice.ensures.value in
    elim (c.is_of_first.ensures.is c.if-is_of_first.true) [
      | inl low ↦ merged_here test meets merges c.args.entry c.merge_at.result first rest c.merge_at.new.chunk.items
          (subst (λ n. n < length first) is low) c.merge_at.ensures
      | inr none ↦ merged_alone test meets merges c.args.entry c.merge_at.result first rest c.merge_at.new.chunk.items
          (ap (flat_map (λ chunk. chunk.items)) none) c.merge_at.ensures
    ]
