-- A run goes on by one event.
use Rattle.std.proofs.Common.{◌≡◌, List, [], ◌∷◌, ◌++◌, refl, sym, ap, subst, ◌∙◌, append_assoc}
use Rattle.std.proofs.lemmas.List.{append-nil}
use Rattle.world_core.specs.declared.event.Event.{Event}
use Rattle.world_core.specs.Step.{Answer, Step, Run}
use Rattle.world_core.specs.World.{WorldState}

-- the run from the old world goes on with the rest of its events as it does from this world
abbrev pub GoesOn : {A : Type 0} → WorldState → List (Event A) → List Answer → WorldState → List (Event A) → Type 0
GoesOn old events so_far now left =
    (answers : List Answer) (new : WorldState) → Run now left answers new → Run old events (so_far ++ answers) new

pub one_more : {A : Type 0} (old : WorldState) (events : List (Event A)) (so_far more : List Answer)
    (now next : WorldState) (event : Event A) (left rest : List (Event A)) (answer : Answer)
    → left ≡ event ∷ rest → more ≡ so_far ++ answer ∷ [] → Step now event answer next
    → GoesOn old events so_far now left → GoesOn old events more next rest
one_more old events so_far more now next event left rest answer is pushed stepped goes answers new run =
    let on : Run now left (answer ∷ answers) new = subst (λ l. Run now l (answer ∷ answers) new) (sym is) (next, stepped, run) in
    subst (λ l. Run old events l new) (sym (ap (λ l. l ++ answers) pushed ∙ append_assoc so_far (answer ∷ []) answers))
    (goes (answer ∷ answers) new on)

pub all_done : {A : Type 0} (old : WorldState) (events : List (Event A)) (so_far : List Answer) (now : WorldState)
    (left : List (Event A)) → left ≡ [] → GoesOn old events so_far now left → Run old events so_far now
all_done old events so_far now left none goes =
    let on : Run now left [] now = subst (λ l. Run now l [] now) (sym none) refl in
    subst (λ l. Run old events l now) (append-nil so_far) (goes [] now on)
