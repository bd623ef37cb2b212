use Rattle.std.proofs.Common.{◌<◌, arith, length}
use Rattle.std.proofs.lemmas.Option.{slice_get_within}
use Rattle.lattice_core.specs.MemberLaws.{Contains-of_map}
use Rattle.ready_core.specs.declared.verdicts.Left.{Left}
use Rattle.commands.proofs.ItemEnds.{out_written}
use Rattle.commands.proofs.item.left_in.Goals as goal

pub unreachable-requires : goal.unreachable-requires
unreachable-requires c =
    let there = Contains-of_map (λ (left : Left). left.item) c.args.out.now c.args.item c.requires.there in
    c.in_default.ensures there.0 there.1 there.2

pub offset_bounds-out-place : goal.offset_bounds-out-place
offset_bounds-out-place c =
    let within : c.in-Some.place < length c.args.out.now = slice_get_within c.args.out.now c.in-Some.place c.in-Some.ensures.left c.in-Some.ensures.here in
    omega arith

pub bounds-out-place : goal.bounds-out-place
bounds-out-place c = slice_get_within c.args.out.now c.in-Some.place c.in-Some.ensures.left c.in-Some.ensures.here

pub returns : goal.returns
returns c = out_written c.args.format c.args.out.now c.args.item c.in-Some.place _ _ c.in-Some.ensures c.in_ok-line.ensures
