use Rattle.std.proofs.Common.{◌≡◌, ℕ, arith, take}
use Rattle.std.specs.Prelude.{All}
use Rattle.std.proofs.Math.Path.{subst}
use Rattle.feed_client.specs.declared.intake.Refusal.{Refusal}
use Rattle.feed_client.specs.declared.intake.Refusal.TheVariants.{NoMemory, BadText, BadBody, ClockSpent, Closed}
use Rattle.feed_client.specs.Refusals.{all, text_of}
use Rattle.feed_client.proofs.answer.refusal_of.Goals as goal

pub returns : goal.returns
returns c =
    let Other : Refusal → Type 0 = λ refusal. ¬ (c.args.text.now ≡ text_of refusal) in
    let end : c.loop-refusal.refusal-index ≡ 5 = omega (arith, c.loop-refusal-test.false, c.loop-refusal.auto.refusal-index-end) in
    let others : All Other all = subst (λ (n : ℕ). All Other (take n all)) end c.loop-refusal.invariant in
    λ refusal. elim refusal as Other [
      | NoMemory ↦ others 0 NoMemory (omega arith)
      | BadText ↦ others 1 NoMemory (omega arith)
      | BadBody ↦ others 2 NoMemory (omega arith)
      | ClockSpent ↦ others 3 NoMemory (omega arith)
      | Closed ↦ others 4 NoMemory (omega arith)
    ]
