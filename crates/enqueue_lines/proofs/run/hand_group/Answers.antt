use Rattle.std.proofs.Common.{◌≡◌, ◌++◌, ℕ, false, List, [], IfErr, IfOk, Ok, Option, Result, ap, refl, subst}
use Rattle.enqueue_lines.specs.Printing.{pipe_shown}
use Rattle.enqueue_lines.specs.Running.{GroupComes, KnownEnds}
use Rattle.enqueue_lines.specs.declared.fault.EnqueueFault.{EnqueueFault}
use Rattle.enqueue_lines.specs.declared.fault.EnqueueFault.TheVariants.{NoEnd}
use Rattle.enqueue_lines.proofs.Ends.{ends_of}
use Rattle.enqueue_lines.proofs.HandingOver.{group_broken, group_given, group_lacking}
use Rattle.enqueue_lines.proofs.run.hand_group.Goals as goal

pub returns-in-Ok-Some-clause-hands : goal.returns-in-Ok-Some-clause-hands
returns-in-Ok-Some-clause-hands g c =
    let before : KnownEnds = ends_of g.S.Source g.O.Drain g.E.Drain c.args.source.now c.args.output.now c.args.errors.now in
    let after : KnownEnds = ends_of g.S.Source g.O.Drain g.E.Drain c.read_group.new.source c.give.new.output c.give.new.errors in
    let comes = c.in-Ok-Some.ensures.comes in
    let bytes = c.args.reader.now.held ++ comes.0 in
    let group = subst (GroupComes bytes c.read_group.new.reader.held c.read_group.new.coming.lines.items c.read_group.new.coming.count) c.in-Ok-Some.field-0-is comes.2.0 in (
      comes.0,
      comes.1,
      group_given (pipe_shown c.args.pipeline.now) c.args.reader.now.limit bytes c.read_group.new.reader.held
          c.read_group.new.coming.lines.items c.read_group.new.coming.count c.in-Ok-Some.ready c.args.number.now c.saturating_add.result
          c.args.handing.now c.give.new.handing before after c.give.result group c.saturating_add.ensures comes.2.1 c.give.ensures,
    )

pub returns-in-Ok-None-clause-hands : goal.returns-in-Ok-None-clause-hands
returns-in-Ok-None-clause-hands g c =
    let before : KnownEnds = ends_of g.S.Source g.O.Drain g.E.Drain c.args.source.now c.args.output.now c.args.errors.now in
    let after : KnownEnds = ends_of g.S.Source g.O.Drain g.E.Drain c.read_group.new.source c.args.output.now c.args.errors.now in
    let comes = c.in-Ok-None.ensures.comes in
    let bytes = c.args.reader.now.held ++ comes.0 in
    let group = subst (GroupComes bytes c.read_group.new.reader.held c.read_group.new.coming.lines.items c.read_group.new.coming.count) c.in-Ok-None.field-0-is comes.2.0 in
    let whole : Option ℕ → Result (Option ℕ) EnqueueFault = λ ended. Ok ended in
    let end = c.in-Ok-None.ensures.end (ap whole c.in-Ok-None.field-0-is) in
    let ended = subst (λ (rest : List ℕ). IfOk c.end_of.result (λ more. (more ≡ false) × (c.read_group.new.coming.count ≡ 0) × (rest ≡ []))) c.held.ensures c.end_of.ensures.ok in
    let refused = subst (λ (rest : List ℕ). IfErr c.end_of.result (λ fault. (fault ≡ NoEnd) × (c.read_group.new.coming.count ≡ 0 → rest ≡ [] → ⊥))) c.held.ensures c.end_of.ensures.refused in (
      comes.0,
      comes.1,
      group_lacking (pipe_shown c.args.pipeline.now) c.args.reader.now.limit bytes c.read_group.new.reader.held
          c.read_group.new.coming.lines.items c.read_group.new.coming.count c.args.number.now c.args.number.now c.args.handing.now c.args.handing.now
          before after c.end_of.result group end.0 end.1 comes.2.1 refl ended refused,
    )

pub returns-clause-hands : goal.returns-clause-hands
returns-clause-hands g c =
    let before : KnownEnds = ends_of g.S.Source g.O.Drain g.E.Drain c.args.source.now c.args.output.now c.args.errors.now in
    let after : KnownEnds = ends_of g.S.Source g.O.Drain g.E.Drain c.read_group.new.source c.args.output.now c.args.errors.now in
    let comes = c.in-Err.ensures.comes in (
      comes.0,
      comes.1,
      group_broken (pipe_shown c.args.pipeline.now) c.args.reader.now.limit (c.args.reader.now.held ++ comes.0)
          c.args.handing.now c.args.number.now before after c.in-Err.fault refl comes.2,
    )
