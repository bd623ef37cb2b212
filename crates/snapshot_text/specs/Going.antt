-- How far a block of bytes was read, line by line: R says how all before the block stands, and S how it stands with
-- what was read of the block.
use Rattle.std.specs.Prelude.{◌≡◌, ℕ, List, [], ◌++◌}
use Rattle.std.proofs.Common.{refl, sym, ap, ◌∙◌, subst, append_assoc, append-nil}
use Rattle.byte_ends.specs.Lines.{as_line}

pub record Goes (R S : List ℕ → Type 0) (block rest : List ℕ) : Type 0 where
  pub done : List ℕ
  pub whole : block ≡ done ++ rest
  pub reads : (came : List ℕ) → R came → S (came ++ done)

pub goes_start : (R : List ℕ → Type 0) (block : List ℕ) → Goes R R block block
goes_start R block = record { done = []; whole = refl; reads = λ came r. subst R (sym (append-nil came)) r }

pub goes_on : (R S T : List ℕ → Type 0) (block rest piece rest' : List ℕ) → Goes R S block rest
    → rest ≡ as_line piece ++ rest' → ((came : List ℕ) → S came → T (came ++ as_line piece)) → Goes R T block rest'
goes_on R S T block rest piece rest' goes is step = record {
  done = goes.done ++ as_line piece;
  whole = goes.whole ∙ ap (λ l. goes.done ++ l) is ∙ sym (append_assoc goes.done (as_line piece) rest');
  reads =
      λ came r. subst T (append_assoc came goes.done (as_line piece)) (step (came ++ goes.done) (goes.reads came r));
}

pub goes_out : (R S T : List ℕ → Type 0) (block rest : List ℕ) → Goes R S block rest
    → ((came : List ℕ) → S came → T (came ++ rest)) → (came : List ℕ) → R came → T (came ++ block)
goes_out R S T block rest goes step came r = subst T
    (append_assoc came goes.done rest ∙ ap (λ l. came ++ l) (sym goes.whole))
    (step (came ++ goes.done) (goes.reads came r))

pub goes_wrong : (R S F : List ℕ → Type 0) (block rest piece rest' : List ℕ) → Goes R S block rest
    → rest ≡ piece ++ rest' → ((came : List ℕ) → S came → (later : List ℕ) → F ((came ++ piece) ++ later))
    → (came : List ℕ) → R came → (later : List ℕ) → F ((came ++ block) ++ later)
goes_wrong R S F block rest piece rest' goes is fails came r later =
    subst F (
    sym (append_assoc ((came ++ goes.done) ++ piece) rest' later)
    ∙ ap (λ l. l ++ later) (
    append_assoc (came ++ goes.done) piece rest'
    ∙ ap (λ l. (came ++ goes.done) ++ l) (sym is)
    ∙ append_assoc came goes.done rest
    ∙ ap (λ l. came ++ l) (sym goes.whole)
    )
    ) (fails (came ++ goes.done) (goes.reads came r) (rest' ++ later))

-- a block in parts, of which each is read after those before it
pub first_and_rest : (came first rest block : List ℕ) → block ≡ first ++ rest → (later : List ℕ)
    → (came ++ first) ++ (rest ++ later) ≡ (came ++ block) ++ later
first_and_rest came first rest block parts later =
    sym (append_assoc (came ++ first) rest later)
    ∙ ap (λ l. l ++ later) (append_assoc came first rest ∙ ap (λ l. came ++ l) (sym parts))

pub three_are_all : (came first whole last rest block : List ℕ) → block ≡ first ++ rest → rest ≡ whole ++ last
    → ((came ++ first) ++ whole) ++ last ≡ came ++ block
three_are_all came first whole last rest block parts others =
    append_assoc (came ++ first) whole last ∙ ap (λ l. (came ++ first) ++ l) (sym others)
    ∙ append_assoc came first rest ∙ ap (λ l. came ++ l) (sym parts)

pub second_and_rest : (came first whole last rest block : List ℕ) → block ≡ first ++ rest → rest ≡ whole ++ last
    → (later : List ℕ) → ((came ++ first) ++ whole) ++ (last ++ later) ≡ (came ++ block) ++ later
second_and_rest came first whole last rest block parts others later =
    sym (append_assoc ((came ++ first) ++ whole) last later)
    ∙ ap (λ l. l ++ later) (three_are_all came first whole last rest block parts others)
