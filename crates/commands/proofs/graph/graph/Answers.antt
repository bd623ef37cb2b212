use Rattle.std.proofs.Common.{◌∙◌, ap, inl, inr, subst, sym, [], ◌∷◌}
use Rattle.std.proofs.lemmas.Result.{err_from_is_err_and}
use Rattle.std.specs.Prelude.{string_bytes}
use Rattle.gate_rules.specs.Spelling.{SpellsGate}
use Rattle.graph_text.specs.Drawing.{IsGraphText}
use Rattle.replica_core.specs.Journal.{all_arrived}
use Rattle.state_core.specs.State.{state_of}
use Rattle.commands.specs.Answers.{HasAround, IsAround, IsOf, IsPicture, IsPrintedWhole, Misses}
use Rattle.commands.proofs.HowItEnds.{finishes, nothing_printed, stops}
use Rattle.commands.proofs.OfRecord.{not_there, record_had, snapshot_refused}
use Rattle.commands.proofs.graph.graph.Goals as goal

pub returns-in_err-gathering : goal.returns-in_err-gathering
returns-in_err-gathering g c =
    let rules = c.in_ok-rules.rules in
    let p = err_from_is_err_and c.from_residual-in_err-gathering.result c.from_residual-in_err-gathering.ensures.1 in
    rw (p.1, p.2) (inl (snapshot_refused c.args.command.now.gate.now c.args.command.now.snapshot.now rules (λ text. SpellsGate text rules) (λ text spells. spells) _ _ _ _ c.in_ok-rules.ensures.had c.in_err-gathering.ensures.refused))

pub returns-in_err-state : goal.returns-in_err-state
returns-in_err-state g c =
    let rules = c.in_ok-rules.rules in
    let first = c.in_ok-rules.ensures.had in
    let second = c.in_ok-gathering.ensures.had in
    let p = err_from_is_err_and c.from_residual-in_err-state.result c.from_residual-in_err-state.ensures.1 in
    rw (p.1, p.2, c.in_err-state.ensures.refused)
    (inr (
      first.0 ∷ second.2.0 ∷ [],
      g.C.Console.state c.read_record.new.console,
      record_had c.args.command.now.gate.now c.args.command.now.snapshot.now rules (λ text. SpellsGate text rules) (λ text spells. spells) second.0 _ _ _ first second.2,
      stops (IsOf first.0 second.2.0 (IsPicture c.args.command.now.around)) _,
    ))

pub returns-in-Ok : goal.returns-in-Ok
returns-in-Ok g c =
    let rules = c.in_ok-rules.rules in
    let first = c.in_ok-rules.ensures.had in
    let second = c.in_ok-gathering.ensures.had in
    let state = c.in_ok-state.ensures.state ∙ ap state_of (second.1 ∙ ap (λ j. all_arrived j second.0) c.new.ensures) in
    inr (
      first.0 ∷ second.2.0 ∷ [],
      g.C.Console.state c.read_record.new.console,
      record_had c.args.command.now.gate.now c.args.command.now.snapshot.now rules (λ text. SpellsGate text rules)
          (λ text spells. spells) second.0 _ _ _ first second.2,
      finishes (IsPrintedWhole (IsOf first.0 second.2.0 (IsPicture c.args.command.now.around)) (Misses (IsAround c.args.command.now.around) second.2.0 (HasAround c.args.command.now.around))) c.as_bytes.result.now _ _ c.print.result
          (record {
            rules = rules;
            spelled = first.2;
            ops = second.0;
            says = second.2.2;
            so = (
              subst (HasAround c.args.command.now.around) state c.in-Ok.ensures.known,
              subst (IsGraphText rules (state_of (all_arrived [] second.0)) c.args.command.now.around)
                  (sym c.as_bytes.ensures.value)
                  (subst (λ s. IsGraphText rules s c.args.command.now.around (string_bytes c.in-Ok.text)) state c.in-Ok.ensures.drawn),
            );
          })
          c.print.ensures,
    )

pub returns : goal.returns
returns g c =
    let rules = c.in_ok-rules.rules in
    let first = c.in_ok-rules.ensures.had in
    let second = c.in_ok-gathering.ensures.had in
    let state = c.in_ok-state.ensures.state ∙ ap state_of (second.1 ∙ ap (λ j. all_arrived j second.0) c.new.ensures) in
    inr (
      first.0 ∷ second.2.0 ∷ [],
      g.C.Console.state c.read_record.new.console,
      record_had c.args.command.now.gate.now c.args.command.now.snapshot.now rules (λ text. SpellsGate text rules)
          (λ text spells. spells) second.0 _ _ _ first second.2,
      inl (
        [],
        not_there (IsOf first.0 second.2.0 (IsPicture c.args.command.now.around)) (IsAround c.args.command.now.around) second.2.0 (HasAround c.args.command.now.around) c.in-Err.refusal second.0 c.in_ok-state.state second.2.2 state c.in-Err.ensures.refused,
        nothing_printed (g.C.Console.state c.read_record.new.console),
      ),
    )
