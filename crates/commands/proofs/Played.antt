-- A script is played step by step, and what the steps print is printed one after the other.
use Rattle.std.proofs.Common.{◌≡◌, inl, inr, ℕ, ◌+◌, List, [], ◌∷◌, ◌++◌, append-nil, append_assoc, length, take}
use Rattle.std.proofs.Common.{Option, None, Some, Ok, Err, refl, ap, sym, ◌∙◌, subst, arith}
use Rattle.std.specs.Io.KnownBytes.{Appends}
use Rattle.std.proofs.Math.Seq.{take-append-add}
use Rattle.std.proofs.lemmas.List.{length-append}
use Rattle.world_core.specs.World.{WorldState, new_world}
use Rattle.script_text.specs.declared.fault.ScriptFault.TheVariants.{NoMemory}
use Rattle.script_text.specs.declared.script.Step.{Step}
use Rattle.script_play.specs.Playing.{Plays, PlaysStep}
use Rattle.commands.specs.Answers.{IsPlayed}
use Rattle.console.specs.Console.{ConsoleState, IsCutShort, IsPrinted, one_more}
use Rattle.console.specs.Printing.{Prints}
use Rattle.commands.specs.Ending.{Finishes}
use Rattle.console.specs.declared.refusals.Refusal.{Refusal}
use Rattle.console.specs.declared.refusals.Refusal.TheVariants.{Output, Script}
use Rattle.commands.proofs.HowItEnds.{nothing_printed}

-- ---- texts printed one after the other

appends-append : (old mid new : Option (List ℕ)) (text more : List ℕ) → Appends old mid text → Appends mid new more
    → Appends old new (text ++ more)
appends-append None mid new text more p q = tt
appends-append (Some a) None new text more p q = absurd p
appends-append (Some a) (Some b) None text more p q = absurd q
appends-append (Some a) (Some b) (Some c) text more p q = q ∙ ap (λ t. t ++ more) p ∙ append_assoc a text more

printed-append : (text more : List ℕ) (old mid new : ConsoleState) → IsPrinted text old mid → IsPrinted more mid new
    → IsPrinted (text ++ more) old new
printed-append text more old mid new p q = record {
  whole = appends-append old.printed mid.printed new.printed text more p.whole q.whole;
  after = q.after ∙ ap (λ (m : ConsoleState). record m { printed = new.printed }) p.after;
}

cut-append : (text more : List ℕ) (old mid new : ConsoleState) → IsPrinted text old mid → IsCutShort more mid new
    → IsCutShort (text ++ more) old new
cut-append text more old mid new p q = record {
  count = length text + q.count;
  proper = omega (arith, q.proper, length-append text more);
  prefix = subst (Appends old.printed new.printed) (sym (take-append-add text more q.count))
      (appends-append old.printed mid.printed new.printed text (take q.count more) p.whole q.prefix);
  after = q.after
      ∙ ap (λ (m : ConsoleState). record m { printed = new.printed; output_failed = one_more m.output_failed }) p.after;
}

-- ---- steps played one after the other

plays-append : (steps more : List Step) (old mid new : WorldState) (text rest : List ℕ) → Plays old steps text mid
    → Plays mid more rest new → Plays old (steps ++ more) (text ++ rest) new
plays-append [] more old mid new text rest p q =
    subst (λ w. Plays w more (text ++ rest) new) p.1 (subst (λ t. Plays mid more (t ++ rest) new) (sym p.0) q)
plays-append (step ∷ steps) more old mid new text rest p q =
    (p.0, p.1, p.2 ++ rest, p.3, plays-append steps more p.1 mid new p.2 rest p.4 q, ap (λ t. t ++ rest) p.5 ∙ append_assoc p.0 p.2 rest)

plays_one : (step : Step) (old new : WorldState) (text : List ℕ) → PlaysStep old step text new
    → Plays old (step ∷ []) text new
plays_one step old new text p = (text, new, [], p, (refl, refl), sym (append-nil text))

-- the first of the steps were played, these are left, and what those print was printed
pub record HasPlayed (sites : ℕ) (steps left : List Step) (world : WorldState) (old now : ConsoleState) : Type 0 where
  pub played : List Step
  pub whole : steps ≡ played ++ left
  pub text : List ℕ
  pub run : Plays (new_world sites) played text world
  pub printed : IsPrinted text old now

pub begins : (sites : ℕ) (steps left : List Step) (world : WorldState) (old : ConsoleState) → world ≡ new_world sites
    → left ≡ steps → HasPlayed sites steps left world old old
begins sites steps left world old new all =
    record { played = []; whole = sym all; text = []; run = (refl, new); printed = nothing_printed old }

module _ (sites : ℕ) (steps left : List Step) (world : WorldState) (old mid : ConsoleState)
    (so_far : HasPlayed sites steps left world old mid) where
  -- one step more is played
  next_whole : (step : Step) (rest : List Step) → left ≡ step ∷ rest → steps ≡ (so_far.played ++ step ∷ []) ++ rest
  next_whole step rest is =
      so_far.whole ∙ ap (λ l. so_far.played ++ l) is ∙ sym (append_assoc so_far.played (step ∷ []) rest)

  next_run : (step : Step) (text : List ℕ) (next : WorldState) → PlaysStep world step text next
      → Plays (new_world sites) (so_far.played ++ step ∷ []) (so_far.text ++ text) next
  next_run step text next plays = plays-append so_far.played (step ∷ [])
      (new_world sites) world next so_far.text text so_far.run (plays_one step world next text plays)

  pub goes_on : (step : Step) (rest : List Step) (text : List ℕ) (next : WorldState) (now : ConsoleState)
      → left ≡ step ∷ rest → PlaysStep world step text next
      → IsPrinted text mid now → HasPlayed sites steps rest next old now
  goes_on step rest text next now is plays printed = record {
    played = so_far.played ++ step ∷ [];
    whole = next_whole step rest is;
    text = so_far.text ++ text;
    run = next_run step text next plays;
    printed = printed-append so_far.text text old mid now so_far.printed printed;
  }

  -- the output failed
  pub is_cut : (bad : Option ℕ) (step : Step) (rest : List Step) (text : List ℕ) (next : WorldState)
      (now : ConsoleState) → left ≡ step ∷ rest → PlaysStep world step text next
      → IsCutShort text mid now → Finishes (IsPlayed sites steps bad) old now (Err Output)
  is_cut bad step rest text next now is plays cut = inr (
    so_far.text ++ text,
    Err (Script NoMemory),
    (so_far.played ++ step ∷ [], (rest, next_whole step rest is), (next, next_run step text next plays)),
    cut-append so_far.text text old mid now so_far.printed cut,
    refl,
  )

-- what printing a step's text says
pub whole_of : (text : List ℕ) (old new : ConsoleState) (done : Unit {0}) → Prints text old new (Ok done)
    → IsPrinted text old new
whole_of text old new done (inl printed) = printed.1
whole_of text old new done (inr cut) = cc

pub cut_of : (text : List ℕ) (old new : ConsoleState) (refusal : Refusal) → Prints text old new (Err refusal)
    → (refusal ≡ Output) × IsCutShort text old new
cut_of text old new refusal (inl printed) = cc
cut_of text old new refusal (inr cut) = let is : refusal ≡ Output = cc in (is, cut.1)
