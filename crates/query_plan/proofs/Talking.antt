-- How the lines of a run end.
use Rattle.std.proofs.Common.{◌≡◌, ◌∙◌, ◌+◌, ◌++◌, ℕ, suc, Bool, true, false, List, [], Option, Result, Ok, Err}
use Rattle.std.proofs.Common.{inl, inr, refl, sym, subst, add-one}
use Rattle.std.specs.Prelude.{IfErr, IfOk}
use Rattle.std.proofs.lemmas.Bool.{false≢true}
use Rattle.std.specs.Io.KnownBytes.{Consumes, IsAtEnd}
use Rattle.byte_ends.specs.Lines.{without_cr}
use Rattle.line_reader.specs.Lines.{BeginsWithLine, Hands, Reading}
use Rattle.query_plan.specs.Running.{Answers, AreLinesAnswered, At, Does, Output, EndsLine, HaveCome, IsAnswered}
use Rattle.query_plan.specs.Running.{LineComes}
use Rattle.query_plan.specs.Running.{RunsTo}
use Rattle.query_plan.specs.declared.fault.PlanFault.{PlanFault}
use Rattle.query_plan.specs.declared.fault.PlanFault.TheVariants.{BadLine, NoQuery, ReadFault, WriteFault, NoMemory}
use Rattle.query_plan.specs.declared.line.Line.{Line}
use Rattle.query_plan.specs.declared.plan.Plan.{Plan}

-- where a run is that reads so
abbrev pub at : Plan → Reading → Option (List ℕ) → ℕ → Output → Output → At
at plan reading left unread output errors =
    record { plan = plan; held = reading.held; left = left; unread = unread; output = output; errors = errors }

-- ---- a line came

line_does : (limit number : ℕ) (old new : At) (line : Line) (result : Result Bool PlanFault)
    → LineComes limit line old new
    → Does line number old.plan old.output old.errors result new.plan new.output new.errors
    → EndsLine limit number old result new
line_does limit number old new line (Ok true) comes does = record {
  line = line;
  comes = comes;
  answer = does.1;
  done = does.2;
  noted = does.3;
  said = does.4;
}
line_does limit number old new line (Ok false) comes does = absurd (false≢true does.0)
line_does limit number old new line (Err (BadLine bad)) comes does = absurd does
line_does limit number old new line (Err (NoQuery bad)) comes does =
    (does.0, record { line = line; comes = comes; refused = does.1; silent = (does.2, does.3) })
line_does limit number old new line (Err ReadFault) comes does = absurd does
line_does limit number old new line (Err WriteFault) comes does = record {
  line = line;
  comes = comes;
  answer = does.0;
  done = does.1;
  cut = does.2;
}
line_does limit number old new line (Err NoMemory) comes does = (does.0, does.1)

line_says : (limit number : ℕ) (old new : At) (came piece line : List ℕ) (result : Result Bool PlanFault)
    → HaveCome came old new → BeginsWithLine limit (old.held ++ came) piece new.held → line ≡ without_cr piece
    → Answers line number old.plan old.output old.errors result new.plan new.output new.errors
    → EndsLine limit number old result new
line_says limit number old new came piece line result read begins is (inl says) =
    line_does limit number old new says.0 result
    (record { came = came; read = read; piece = piece; begins = begins; spelled = sym is ∙ says.1 }) says.2
line_says limit number old new came piece line result read begins is (inr (inl nothing)) =
    let ends : EndsLine limit number old (Err (BadLine number)) new = (
      refl,
      record {
        came = came;
        read = read;
        bad = inl (piece, begins, λ l fits e. nothing.1 l fits (is ∙ e));
        silent = (nothing.3, nothing.4);
      },
    ) in
    subst (λ (r : Result Bool PlanFault). EndsLine limit number old r new) (sym nothing.0) ends
line_says limit number old new came piece line result read begins is (inr (inr full)) =
    let ends : EndsLine limit number old (Err NoMemory) new = (full.1, full.2) in
    subst (λ (r : Result Bool PlanFault). EndsLine limit number old r new) (sym full.0) ends

pub line_ends : (number : ℕ) (plan plan' : Plan) (before after : Reading) (left left' : Option (List ℕ))
    (unread unread' : ℕ)
    (output output' errors errors' : Output) (more : Bool) (line : List ℕ) (result : Result Bool PlanFault)
    → more ≡ true
    → (came : List ℕ) × Consumes left left' came × Hands before came (Ok more) after
    → unread' ≡ unread → line ≡ after.line → Answers line number plan output errors result plan' output' errors'
    → EndsLine before.limit number (at plan before left unread output errors) result
    (at plan' after left' unread' output' errors')
line_ends number plan plan' before after left left' unread unread' output output' errors errors' false line result is hands count says answers =
    absurd (false≢true is)
line_ends number plan plan' before after left left' unread unread' output output' errors errors' true line result is hands count says answers =
    line_says before.limit number (at plan before left unread output errors)
    (at plan' after left' unread' output' errors')
    hands.0 hands.2.0 line result (record { consumed = hands.1; none_failed = count }) hands.2.1
    (says ∙ hands.2.2) answers

-- ---- no line came

pub source_ends : (number : ℕ) (plan : Plan) (before after : Reading) (left left' : Option (List ℕ))
    (unread unread' : ℕ)
    (output errors : Output) (more : Bool) (held : List ℕ) (result : Result Bool PlanFault) → more ≡ false
    → (came : List ℕ) × Consumes left left' came × Hands before came (Ok more) after
    → IsAtEnd left' → unread' ≡ unread → held ≡ after.held
    → IfOk result (λ found. (found ≡ false) × (held ≡ []))
    → IfErr result (λ fault. (fault ≡ BadLine number) × ¬ (held ≡ []))
    → EndsLine before.limit number (at plan before left unread output errors) result
    (at plan after left' unread' output errors)
source_ends number plan before after left left' unread unread' output errors true held result is hands ended count shown ok refused =
    absurd (false≢true (sym is))
source_ends number plan before after left left' unread unread' output errors false held (Ok found) is hands ended count shown ok refused =
    let old = at plan before left unread output errors in
    let new = at plan after left' unread' output errors in
    let ends : EndsLine before.limit number old (Ok false) new = record {
      came = hands.0;
      read = record { consumed = hands.1; none_failed = count };
      none_held = sym hands.2.1 ∙ sym shown ∙ ok.1;
      ended = ended;
      silent = (refl, refl);
      same = refl;
    } in
    subst (λ (b : Bool). EndsLine before.limit number old (Ok b) new) (sym ok.0) ends
source_ends number plan before after left left' unread unread' output errors false held (Err fault) is hands ended count shown ok refused =
    let old = at plan before left unread output errors in
    let new = at plan after left' unread' output errors in
    let ends : EndsLine before.limit number old (Err (BadLine number)) new = (
      refl,
      record {
        came = hands.0;
        read = record { consumed = hands.1; none_failed = count };
        bad = inr (inr (hands.2.0, λ none. refused.1 (shown ∙ hands.2.1 ∙ none)));
        silent = (refl, refl);
      },
    ) in
    subst (λ (f : PlanFault). EndsLine before.limit number old (Err f) new) (sym refused.0) ends

-- ---- all lines

pub one_more : (limit count : ℕ) (first last new : At) → AreLinesAnswered limit count first last
    → IsAnswered limit last new
    → AreLinesAnswered limit (count + 1) first new
one_more limit count first last new before now =
    let all : AreLinesAnswered limit (suc count) first new = (last, before, now) in
    subst (λ (n : ℕ). AreLinesAnswered limit n first new) (sym (add-one count)) all

-- one more line was answered
pub answered_one : (limit limit' count : ℕ) (first last new : At) (more : Bool) → limit' ≡ limit → more ≡ true
    → AreLinesAnswered limit count first last → EndsLine limit' (count + 1) last (Ok more) new
    → AreLinesAnswered limit (count + 1) first new
answered_one limit limit' count first last new more same is before ends =
    let now = subst (λ (b : Bool). EndsLine limit' (count + 1) last (Ok b) new) is ends in
    one_more limit count first last new before (subst (λ (n : ℕ). IsAnswered n last new) same now)

-- the next line ended the run
pub ran_to : (limit limit' count : ℕ) (first last new : At) (result wanted : Result Bool PlanFault) → limit' ≡ limit
    → result ≡ wanted → AreLinesAnswered limit count first last → EndsLine limit' (count + 1) last result new
    → RunsTo limit first new wanted
ran_to limit limit' count first last new result wanted same is before ends =
    let here = subst (λ (n : ℕ). EndsLine n (count + 1) last result new) same ends in
    record {
      count = count;
      last = last;
      answered = before;
      ended = subst (λ (r : Result Bool PlanFault). EndsLine limit (count + 1) last r new) is here;
    }

-- memory was refused before the first line
pub ran_nowhere : (limit : ℕ) (first : At) → RunsTo limit first first (Err NoMemory)
ran_nowhere limit first = record { count = 0; last = first; answered = refl; ended = (refl, refl) }

-- all the lines that there may be were answered
pub ran_out : (limit count : ℕ) (first last : At) → count ≡ 18446744073709551615
    → AreLinesAnswered limit count first last
    → AreLinesAnswered limit 18446744073709551615 first last
ran_out limit count first last is before = subst (λ (n : ℕ). AreLinesAnswered limit n first last) is before
