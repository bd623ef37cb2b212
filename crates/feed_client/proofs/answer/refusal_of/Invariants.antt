use Rattle.std.proofs.Common.{◌≡◌, take}
use Rattle.std.specs.Prelude.{All}
use Rattle.feed_client.specs.Refusals.{all, text_of}
use Rattle.feed_client.proofs.answer.refusal_of.Given as goal

-- the text is none of the first refusals'
abbrev pub invariant-loop-refusal : goal.invariant-loop-refusal
invariant-loop-refusal l = All (λ refusal. ¬ (l.text ≡ text_of refusal)) (take l.refusal-index all)
