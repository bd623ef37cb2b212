use Rattle.std.proofs.Common.{◌≡◌, ◌≤◌, ◌∙◌, ◌++◌, inl, inr, length, ap, subst, sym, arith}
use Rattle.std.specs.List.{flat_map, insert}
use Rattle.std.specs.List.Sorted.{IsPartitionedBy}
use Rattle.std.proofs.lemmas.Result.{on_ok_weaker}
use Rattle.chunk_list.specs.Ranks.{rank}
use Rattle.chunk_list.specs.RankLaws.{rank-le, parted_right}
use Rattle.chunk_list.proofs.Wholes.{insert_here, insert_alone, insert_past}
use Rattle.chunk_list.proofs.edits.add_entry.Goals as goal

pub add_at-requires : goal.add_at-requires
add_at-requires g c =
    let test = g.T.Probe.passes c.args.entry in
    let first = c.divide.new.first.items in
    omega (arith, c.passing-index.ensures ∙ ap (rank test) c.as_slice.ensures.value, rank-le test first)

pub returns-then-is_of_first-clause-ok : goal.returns-then-is_of_first-clause-ok
returns-then-is_of_first-clause-ok g c =
    let test = g.T.Probe.passes c.args.entry in
    let first = c.divide.new.first.items in
    let rest = flat_map (λ chunk. chunk.items) c.divide.new.rest.items in
    let index = c.passing-index.result in
    let is = c.passing-index.ensures ∙ ap (rank test) c.as_slice.ensures.value in
    let added : insert first index c.args.entry ++ rest ≡ insert (first ++ rest) (rank test (first ++ rest)) c.args.entry =
    elim (c.is_of_first.ensures.is c.if-is_of_first.true) [
      | inl low ↦ insert_here test first rest index is low c.args.entry
      | inr none ↦ insert_alone test first rest index is c.args.entry (ap (flat_map (λ chunk. chunk.items)) none)
    ] in
    on_ok_weaker c.add_at.result
    (λ e. ap (λ l. l ++ rest) e ∙ added ∙ ap (λ w. insert w (rank test w) c.args.entry) c.divide.ensures.same)
    c.add_at.ensures.ok

pub room_before-requires-clause-parted : goal.room_before-requires-clause-parted
room_before-requires-clause-parted g c =
    let test = g.T.Probe.passes c.args.entry in
    parted_right test c.divide.new.first.items (flat_map (λ chunk. chunk.items) c.divide.new.rest.items)
    (subst (IsPartitionedBy test) (sym c.divide.ensures.same) c.requires.parted)

pub returns-clause-ok : goal.returns-clause-ok
returns-clause-ok g c =
    let test = g.T.Probe.passes c.args.entry in
    let first = c.divide.new.first.items in
    let rest = flat_map (λ chunk. chunk.items) c.divide.new.rest.items in
    let room = flat_map (λ chunk. chunk.items) c.room_before.new.chunks.items in
    let index = c.passing-index.result in
    let is = c.passing-index.ensures ∙ ap (rank test) c.as_slice.ensures.value in
    let high : length first ≤ index = c.is_of_first.ensures.past c.if-is_of_first.false in
    on_ok_weaker c.add_at_spot.result
    (λ e. ap (λ l. first ++ l)
    (e ∙ ap (λ n. insert room n c.args.entry) c.in_ok-spot.ensures.rank ∙ ap (λ w. insert w (rank test w) c.args.entry) c.in_ok-spot.ensures.same)
    ∙ insert_past test first rest index is high c.args.entry
    ∙ ap (λ w. insert w (rank test w) c.args.entry) c.divide.ensures.same)
    c.add_at_spot.ensures.ok
