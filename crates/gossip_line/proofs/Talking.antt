-- How a session goes on by one turn more.
use Rattle.std.proofs.Common.{◌≡◌, ℕ, zero, suc, true, false, List, [], ◌∷◌, ◌++◌, Ok, eqb, length, refl, sym, ap, ◌∙◌}
use Rattle.std.proofs.Common.{subst, append_assoc, append-nil, arith}
use Rattle.std.specs.Prelude.{flat_map}
use Rattle.std.specs.List.{AllByRecursion}
use Rattle.std.specs.Io.KnownBytes.{Appends, Consumes}
use Rattle.std.proofs.KnownBytes.{Appends-trans, Consumes-trans, Consumes-nil, Appends-nil}
use Rattle.std.proofs.lemmas.Bool.{eqb-true, false_from_ne_true}
use Rattle.byte_ends.specs.Lines.{as_line, without_cr}
use Rattle.line_reader.specs.Lines.{BeginsWithLine}
use Rattle.site_port.specs.Ports.{Call, Reply}
use Rattle.gossip_line.specs.Answers.{Answers, IsWritten}
use Rattle.gossip_line.specs.Session.{Answered, IsLast, IsPiece, IsTalk, Moment, Turn, is_none_yet, line_of, lines_of}
use Rattle.gossip_line.specs.Session.{texts_of}
use Rattle.gossip_line.specs.Texts.{SessionAnswer, answer_text, next_of}

-- what a list's last element adds
pub flat_map-push : {T : Type 0} (f : T → List ℕ) (xs : List T) (x : T)
    → flat_map f (xs ++ x ∷ []) ≡ flat_map f xs ++ f x
flat_map-push f [] x = append-nil (f x)
flat_map-push f (y ∷ xs) x = ap (λ l. f y ++ l) (flat_map-push f xs x) ∙ sym (append_assoc (f y) (flat_map f xs) (f x))

pub All-push : {T : Type 0} (Q : T → Type 0) (xs : List T) (x : T) → AllByRecursion Q xs → Q x
    → AllByRecursion Q (xs ++ x ∷ [])
All-push Q [] x all one = (one, tt)
All-push Q (y ∷ xs) x all one = (all.0, All-push Q xs x all.1 one)

-- the first line is the one with the number 0
pub first_by_number : (turns : List Turn) (number : ℕ) → length turns ≡ number → eqb number 0 ≡ is_none_yet turns
first_by_number [] zero is = refl
first_by_number [] (suc number) is = absurd (omega arith)
first_by_number (turn ∷ turns) zero is = absurd (omega arith)
first_by_number (turn ∷ turns) (suc number) is =
    false_from_ne_true (eqb (suc number) 0) (λ e. absurd (omega (arith, eqb-true (suc number) 0 e)))

module _ {P : Type 0} (gives : P → Call → Reply → P → Type 0) where
  later_answered : (old : P) (turns : List Turn) (mid : P) (turn : Turn) (new : P) → Answered gives false old turns mid
      → Answers gives false mid (line_of turn) turn.answer new
      → Answered gives false old (turns ++ turn ∷ []) new
  later_answered old [] mid turn new before is =
      (new, subst (λ p. Answers gives false p (line_of turn) turn.answer new) before is, refl)
  later_answered old (first ∷ turns) mid turn new before is =
      (before.0, before.1, later_answered before.0 turns mid turn new before.2 is)

  one_more_answered : (old : P) (turns : List Turn) (mid : P) (turn : Turn) (new : P)
      → Answered gives true old turns mid → Answers gives (is_none_yet turns) mid (line_of turn) turn.answer new
      → Answered gives true old (turns ++ turn ∷ []) new
  one_more_answered old [] mid turn new before is =
      (new, subst (λ p. Answers gives true p (line_of turn) turn.answer new) before is, refl)
  one_more_answered old (first ∷ turns) mid turn new before is =
      (before.0, before.1, later_answered before.0 turns mid turn new before.2 is)

  -- at first nothing was read
  pub no_talk : (limit : ℕ) (now : Moment P) (held : List ℕ) → held ≡ [] → IsTalk gives limit now now [] held
  no_talk limit now held none = record {
    came = subst (Consumes now.left now.left) (sym none) (Consumes-nil now.left);
    answered = refl;
    go_on = tt;
    written = record { whole = Appends-nil now.taken; none_failed = refl };
    none_unread = refl;
  }

  -- a line more is read and answered, and the session goes on
  pub talk_on : (limit : ℕ) (before mid now : Moment P) (turns : List Turn) (held came later : List ℕ) (turn : Turn)
      → IsTalk gives limit before mid turns held
      → Consumes mid.left now.left came → BeginsWithLine limit (held ++ came) turn.piece later
      → Answers gives (is_none_yet turns) mid.port (line_of turn) turn.answer now.port → next_of turn.answer ≡ Ok true
      → IsWritten (answer_text turn.answer) mid.taken now.taken mid.unwritten now.unwritten → now.unread ≡ mid.unread
      → IsTalk gives limit before now (turns ++ turn ∷ []) later
  talk_on limit before mid now turns held came later turn talk read line answered goes_on written none_unread = record {
    came = subst (Consumes before.left now.left)
        (append_assoc (lines_of turns) held came ∙ ap (λ l. lines_of turns ++ l) line.whole ∙ sym (append_assoc (lines_of turns) (as_line turn.piece) later)
        ∙ ap (λ l. l ++ later) (sym (flat_map-push (λ t. as_line t.piece) turns turn)))
        (Consumes-trans before.left mid.left now.left (lines_of turns ++ held) came talk.came read);
    answered = one_more_answered before.port turns mid.port turn now.port talk.answered answered;
    go_on = All-push (λ t. IsPiece limit t.piece × (next_of t.answer ≡ Ok true)) turns turn talk.go_on
        (record { plain = line.plain; short = line.short }, goes_on);
    written = record {
      whole = subst (Appends before.taken now.taken) (sym (flat_map-push (λ t. answer_text t.answer) turns turn))
          (Appends-trans before.taken mid.taken now.taken (texts_of turns) (answer_text turn.answer) talk.written.whole written.whole);
      none_failed = written.none_failed ∙ talk.written.none_failed;
    };
    none_unread = none_unread ∙ talk.none_unread;
  }

  -- what was answered to the line of this number
  pub answered_as : (turns : List Turn) (number : ℕ) (old : P) (line piece : List ℕ) (answer : SessionAnswer) (new : P)
      → length turns ≡ number → line ≡ without_cr piece
      → Answers gives (eqb number 0) old line answer new
      → Answers gives (is_none_yet turns) old (without_cr piece) answer new
  answered_as turns number old line piece answer new counted is h =
      subst (λ l. Answers gives (is_none_yet turns) old l answer new) is
      (subst (λ first. Answers gives first old line answer new) (first_by_number turns number counted) h)

  -- it is the last line of the session
  pub last_line : (limit : ℕ) (turns : List Turn) (number : ℕ) (old : P) (rest later line : List ℕ) (answer : SessionAnswer)
      (new : P) → length turns ≡ number
      → (piece : List ℕ) → BeginsWithLine limit rest piece later → line ≡ without_cr piece
      → Answers gives (eqb number 0) old line answer new → IsLast gives limit (is_none_yet turns) old rest answer new
  last_line limit turns number old rest later line answer new counted piece begins is h = record {
    piece = piece;
    later = later;
    whole = begins.whole;
    is = record { plain = begins.plain; short = begins.short };
    answered = answered_as turns number old line piece answer new counted is h;
  }
