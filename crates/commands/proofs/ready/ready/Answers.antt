use Rattle.std.proofs.Common.{◌≡◌, ◌∙◌, ap, inl, inr, subst, [], ◌∷◌}
use Rattle.std.proofs.lemmas.Result.{err_from_is_err_and}
use Rattle.gate_rules.specs.Spelling.{SpellsGate}
use Rattle.ready_core.specs.Verdicts.{AreVerdicts}
use Rattle.replica_core.specs.Journal.{all_arrived}
use Rattle.state_core.specs.State.{state_of}
use Rattle.commands.specs.Answers.{IsOf, IsReport, IsPrintedWhole, MissesNone, report_as}
use Rattle.commands.proofs.HowItEnds.{stops, whole_so}
use Rattle.commands.proofs.Simulated.{finishes_so}
use Rattle.commands.proofs.OfRecord.{record_had, snapshot_refused}
use Rattle.commands.proofs.ready.ready.Goals as goal

pub returns-in_err-gathering : goal.returns-in_err-gathering
returns-in_err-gathering g c =
    let p = err_from_is_err_and c.from_residual-in_err-gathering.result c.from_residual-in_err-gathering.ensures.1 in
    let rules = c.in_ok-rules.rules in
    rw (p.1, p.2) (inl (snapshot_refused c.args.command.now.gate.now c.args.command.now.snapshot.now rules (λ text. SpellsGate text rules) (λ text spells. spells) _ _ _ _ c.in_ok-rules.ensures.had c.in_err-gathering.ensures.refused))

pub returns-in_err-state : goal.returns-in_err-state
returns-in_err-state g c =
    let rules = c.in_ok-rules.rules in
    let first = c.in_ok-rules.ensures.had in
    let second = c.in_ok-gathering.ensures.had in
    let p = err_from_is_err_and c.from_residual-in_err-state.result c.from_residual-in_err-state.ensures.1 in
    rw (p.1, p.2, c.in_err-state.ensures.refused)
    (inr (
      first.0 ∷ second.2.0 ∷ [],
      g.C.Console.state c.read_record.new.console,
      record_had c.args.command.now.gate.now c.args.command.now.snapshot.now rules (λ text. SpellsGate text rules) (λ text spells. spells) second.0 _ _ _ first second.2,
      stops (IsOf first.0 second.2.0 (IsReport c.args.command.now.format)) _,
    ))

pub returns-in_default : goal.returns-in_default
returns-in_default g c =
    let rules = c.in_ok-rules.rules in
    let first = c.in_ok-rules.ensures.had in
    let second = c.in_ok-gathering.ensures.had in
    inr (
      first.0 ∷ second.2.0 ∷ [],
      g.C.Console.state c.read_record.new.console,
      record_had c.args.command.now.gate.now c.args.command.now.snapshot.now rules (λ text. SpellsGate text rules)
          (λ text spells. spells) second.0 _ _ _ first second.2,
      stops (IsOf first.0 second.2.0 (IsReport c.args.command.now.format)) _,
    )

pub returns : goal.returns
returns g c =
    let rules = c.in_ok-rules.rules in
    let first = c.in_ok-rules.ensures.had in
    let second = c.in_ok-gathering.ensures.had in
    let state = c.in_ok-state.ensures.state ∙ ap state_of (second.1 ∙ ap (λ j. all_arrived j second.0) c.new.ensures) in
    inr (
      first.0 ∷ second.2.0 ∷ [],
      g.C.Console.state c.read_record.new.console,
      record_had c.args.command.now.gate.now c.args.command.now.snapshot.now rules (λ text. SpellsGate text rules)
          (λ text spells. spells) second.0 _ _ _ first second.2,
      finishes_so (IsPrintedWhole (λ answer. answer ≡ report_as c.args.command.now.format c.in-Ok.verdicts) MissesNone) _
          (whole_so (λ answer. answer ≡ report_as c.args.command.now.format c.in-Ok.verdicts) (IsOf first.0 second.2.0 (IsReport c.args.command.now.format)) MissesNone
          (λ answer same. record {
            rules = rules;
            spelled = first.2;
            ops = second.0;
            says = second.2.2;
            so = (c.in-Ok.verdicts, subst (λ s. AreVerdicts rules s c.in-Ok.verdicts) state c.in-Ok.ensures, same);
          })) _ _ c.print_verdicts-printed.result c.print_verdicts-printed.ensures,
    )
