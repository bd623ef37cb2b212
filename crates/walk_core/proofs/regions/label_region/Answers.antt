use Rattle.std.proofs.Common.{◌≡◌, ◌^◌, ◌<◌, ◌∷◌, [], length, subst, arith}
use Rattle.std.proofs.lemmas.List.{nil_from_length}
use Rattle.std.specs.List.{All}
use Rattle.std.proofs.lemmas.List.Elements.{All-append, All-from_recursion}
use Rattle.lattice_core.specs.MemberLaws.{Contains-first}
use Rattle.walk_core.specs.Regions.{Waits}
use Rattle.walk_core.proofs.Spreading.{taken_within}
use Rattle.walk_core.proofs.Labels.{IsLabelling, fewer_unlabelled, labelled_all, labelling_starts, labelling_passes}
use Rattle.walk_core.proofs.Labels.{labelling_takes}
use Rattle.walk_core.proofs.regions.label_region.Goals as goal

pub loop-node-init : goal.loop-node-init
loop-node-init g c =
    let ahead = c.args.start ∷ [] in
    let within : All (λ x. x < length c.args.graph.now) ahead = All-from_recursion (λ x. x < length c.args.graph.now) ahead (c.requires.start, tt) in
    rw (c.in_ok-push.ensures.items, c.new-ahead.ensures.items) (record {
      labelling = labelling_starts c.args.graph.now c.args.kept.now c.args.start _ _ (Contains-first c.args.start []);
      within = within;
    })

pub loop-node-smaller-in-Continue-branch-3 : goal.loop-node-smaller-in-Continue-branch-3
loop-node-smaller-in-Continue-branch-3 g c =
    let labels = c.loop-node.labels.items in
    let node = c.in-Some.node in
    let taken = taken_within (length c.args.graph.now) c.loop-node.ahead.items c.pop.new.self.items node c.in-Some.ensures.items c.loop-node.invariant.within in
    let within : node < length labels = omega (arith, taken.0, c.loop-node.invariant.labelling.size, c.requires.labels) in
    let waits : Waits c.args.kept.now labels node = rw c.as_slice.ensures.value at c.if-waits.ensures in
    let fewer = fewer_unlabelled labels node c.args.start within waits.unlabelled in
    let short : length c.extend_from_slice-then-waits.new.self.items < 2 ^ 64 = omega (arith, c.extend_from_slice-then-waits.new.self.ok, c.extend_from_slice-then-waits.new.self.small) in
    omega (arith, fewer, short)

pub loop-node-preserved-in-Continue-branch-3 : goal.loop-node-preserved-in-Continue-branch-3
loop-node-preserved-in-Continue-branch-3 g c =
    let size = length c.args.graph.now in
    let labels = c.loop-node.labels.items in
    let node = c.in-Some.node in
    let old = rw c.in-Some.ensures.items at c.loop-node.invariant.labelling in
    let taken = taken_within size c.loop-node.ahead.items c.pop.new.self.items node c.in-Some.ensures.items c.loop-node.invariant.within in
    let within : node < length labels = omega (arith, taken.0, c.loop-node.invariant.labelling.size, c.requires.labels) in
    let waits : Waits c.args.kept.now labels node = rw c.as_slice.ensures.value at c.if-waits.ensures in
    rw (c.in_ok-extend_from_slice-2.ensures.items, c.in_ok-extend_from_slice.ensures.items) (record {
      labelling = labelling_takes _ _ _ _ _ _ _ old within waits _ _ (λ y edge. rw c.ends.ensures.row edge)
          (λ y edge. (c.namers.ensures.row y).1 edge);
      within = All-append (λ x. x < size) _ _
          (All-append (λ x. x < size) _ _ taken.1 c.ends.ensures.within) c.namers.ensures.within;
    })

pub loop-node-preserved : goal.loop-node-preserved
loop-node-preserved g c =
    let old = rw c.in-Some.ensures.items at c.loop-node.invariant.labelling in
    let taken = taken_within (length c.args.graph.now) c.loop-node.ahead.items c.pop.new.self.items c.in-Some.node c.in-Some.ensures.items c.loop-node.invariant.within in
    record {
      labelling = labelling_passes _ _ _ _ _ _ _ old (rw c.as_slice.ensures.value at c.if-waits.ensures);
      within = taken.1;
    }

pub returns : goal.returns
returns g c =
    let none : c.loop-node.ahead.items ≡ [] = nil_from_length _ (omega (arith, c.in_default.ensures.cases.0, c.loop-node.ahead.ok)) in
    labelled_all _ _ _ _ _ (subst (IsLabelling c.args.graph.now c.args.kept.now c.args.start c.args.labels.now.items c.loop-node.labels.items) none c.loop-node.invariant.labelling)
