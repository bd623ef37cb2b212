use Rattle.std.proofs.Common.{◌≡◌, ◌⊎◌, ◌∙◌, ℕ, Option, ap, inl, inr, refl, subst, sym, [], ◌∷◌}
use Rattle.std.proofs.lemmas.Result.{err_from_is_err_and}
use Rattle.gate_rules.specs.Spelling.{SpellsGate}
use Rattle.replica_core.specs.Journal.{all_arrived}
use Rattle.state_core.specs.State.{State, state_of}
use Rattle.state_core.specs.declared.item.Item.{Item}
use Rattle.why_text.specs.Asked.{IsItemAsked}
use Rattle.console.specs.declared.refusals.Refusal.{Refusal}
use Rattle.console.specs.declared.refusals.Refusal.TheVariants.{Memory, NoItem}
use Rattle.commands.specs.Answers.{HasItem, IsItemText, IsOf, IsWhyAnswer, IsPrintedWhole, Misses}
use Rattle.commands.proofs.HowItEnds.{finishes, nothing_printed, stops}
use Rattle.commands.proofs.OfRecord.{not_there, record_had, snapshot_refused}
use Rattle.commands.proofs.why.why.Goals as goal

pub returns-in_err-gathering : goal.returns-in_err-gathering
returns-in_err-gathering g c =
    let file = c.in_ok-file.file in
    let p = err_from_is_err_and c.from_residual-in_err-gathering.result c.from_residual-in_err-gathering.ensures.1 in
    rw (p.1, p.2) (inl (snapshot_refused c.args.command.now.gate.now c.args.command.now.snapshot.now file.rules (λ text. SpellsGate text file.rules × (text ≡ file.text.items)) (λ text is. is.0) _ _ _ _
    c.in_ok-file.ensures.had c.in_err-gathering.ensures.refused))

pub returns-in_err-state : goal.returns-in_err-state
returns-in_err-state g c =
    let file = c.in_ok-file.file in
    let first = c.in_ok-file.ensures.had in
    let second = c.in_ok-gathering.ensures.had in
    let p = err_from_is_err_and c.from_residual-in_err-state.result c.from_residual-in_err-state.ensures.1 in
    rw (p.1, p.2, c.in_err-state.ensures.refused)
    (inr (
      first.0 ∷ second.2.0 ∷ [],
      g.C.Console.state c.read_record.new.console,
      record_had c.args.command.now.gate.now c.args.command.now.snapshot.now file.rules (λ text. SpellsGate text file.rules × (text ≡ file.text.items)) (λ text is. is.0) second.0 _ _ _ first second.2,
      stops (IsOf first.0 second.2.0 (IsWhyAnswer first.0 c.args.command.now)) _,
    ))

pub returns-in-Ok : goal.returns-in-Ok
returns-in-Ok g c =
    let file = c.in_ok-file.file in
    let first = c.in_ok-file.ensures.had in
    let second = c.in_ok-gathering.ensures.had in
    let state = c.in_ok-state.ensures.state ∙ ap state_of (second.1 ∙ ap (λ j. all_arrived j second.0) c.new.ensures) in
    inr (
      first.0 ∷ second.2.0 ∷ [],
      g.C.Console.state c.read_record.new.console,
      record_had c.args.command.now.gate.now c.args.command.now.snapshot.now file.rules
          (λ text. SpellsGate text file.rules × (text ≡ file.text.items))
          (λ text is. is.0) second.0 _ _ _ first second.2,
      finishes (IsPrintedWhole (IsOf first.0 second.2.0 (IsWhyAnswer first.0 c.args.command.now)) (Misses (IsItemText c.args.command.now.change c.args.command.now.set) second.2.0 (HasItem c.args.command.now.change c.args.command.now.set))) c.as_slice.result.now _ _ c.print.result
          (record {
            rules = file.rules;
            spelled = first.2.0;
            ops = second.0;
            says = second.2.2;
            so =
                subst (IsWhyAnswer first.0 c.args.command.now file.rules (state_of (all_arrived [] second.0)))
                (sym c.as_slice.ensures.value)
                (subst (λ s. IsWhyAnswer first.0 c.args.command.now file.rules s c.in-Ok.text.items) state
                (subst (λ t. IsWhyAnswer t c.args.command.now file.rules c.in_ok-state.state c.in-Ok.text.items) (sym first.2.1) c.in-Ok.ensures.reason));
          })
          c.print.ensures,
    )

-- there is no such item, or memory was refused
no_item : (change : ℕ) (set : Option ℕ) (state : State) (refusal : Refusal)
    → ((refusal ≡ NoItem change set) × ((item : Item) → ¬ IsItemAsked state change set item)) ⊎ (refusal ≡ Memory)
    → ((number : ℕ) × (other : Option ℕ) × IsItemText change set number other × (refusal ≡ NoItem number other)
    × ¬ HasItem change set state) ⊎ (refusal ≡ Memory)
no_item change set state refusal (inl none) =
    inl (change, set, (refl, refl), none.0, λ has. none.1 has.0 has.1)
no_item change set state refusal (inr memory) = inr memory

pub returns : goal.returns
returns g c =
    let file = c.in_ok-file.file in
    let first = c.in_ok-file.ensures.had in
    let second = c.in_ok-gathering.ensures.had in
    let state = c.in_ok-state.ensures.state ∙ ap state_of (second.1 ∙ ap (λ j. all_arrived j second.0) c.new.ensures) in
    inr (
      first.0 ∷ second.2.0 ∷ [],
      g.C.Console.state c.read_record.new.console,
      record_had c.args.command.now.gate.now c.args.command.now.snapshot.now file.rules
          (λ text. SpellsGate text file.rules × (text ≡ file.text.items))
          (λ text is. is.0) second.0 _ _ _ first second.2,
      inl (
        [],
        not_there (IsOf first.0 second.2.0 (IsWhyAnswer first.0 c.args.command.now))
            (IsItemText c.args.command.now.change c.args.command.now.set) second.2.0
            (HasItem c.args.command.now.change c.args.command.now.set) c.in-Err.refusal second.0 c.in_ok-state.state second.2.2 state
            (no_item c.args.command.now.change c.args.command.now.set c.in_ok-state.state c.in-Err.refusal c.in-Err.ensures.refused),
        nothing_printed (g.C.Console.state c.read_record.new.console),
      ),
    )
