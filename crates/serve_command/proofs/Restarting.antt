-- What survived a crash is in the record that a site begins with.
use Rattle.std.proofs.Common.{◌≡◌, ◌++◌, ℕ, List, [], Option, None, Some, Result, Ok, Err, IfOk, IfSome, inl, inr, ap, subst, sym, ◌∙◌}
use Rattle.std.proofs.Common.{refl}
use Rattle.std.proofs.lemmas.Bool.{false≢true}
use Rattle.std.specs.Prelude.{IsSome}
use Rattle.replica_core.specs.Journal.{all_arrived, has}
use Rattle.replica_core.specs.JournalLaws.{IsPartOf, IsSameSet-append, has-all_arrived, has-append_left, kept-all_arrived}
use Rattle.review_ops.specs.Operation.{Operation}
use Rattle.site_journal.specs.Tape.{Image, IsLeftBy}
use Rattle.site_journal.specs.Text.{IsFresh, SaysJournal}
use Rattle.serve_command.specs.Beginning.{HasSurvivors, IsRecordBegun}
use Rattle.serve_command.specs.Restarts.{BeginsAgain, RunsAgain}

-- what the text says first is in the record, once all that it says has come
said_part : (ops published more own begun loaded : List Operation) → ops ≡ published ++ more → own ≡ all_arrived [] ops
    → ((op : Operation) → has begun op ≡ has (own ++ loaded) op) → IsPartOf published begun
said_part ops published more own begun loaded is taken both op h =
    both op
    ∙ has-append_left own loaded op
    (ap (λ l. has l op) taken ∙ has-all_arrived [] ops op ∙ ap (λ l. has l op) is ∙ has-append_left published more op h)

-- journals have one reading, and a prefix of the first line has none
module _ (one : (text : List ℕ) (ops others : List Operation) (rest other : List ℕ) → SaysJournal text ops rest
    → SaysJournal text others other → (ops ≡ others) × (rest ≡ other)) (fresh : (text : List ℕ) (ops : List Operation)
    (rest : List ℕ) → SaysJournal text ops rest → ¬ IsFresh text) where
  begun_part : (text : List ℕ) (loaded begun : List Operation) → IsRecordBegun text loaded begun
      → (published : List Operation)
      → ((more : List Operation) × (rest : List ℕ) × SaysJournal text (published ++ more) rest)
      → IsPartOf published begun
  begun_part text loaded begun b published (more, rest, says) = elim b.opened.said [
    | inl said ↦ said_part b.opened.ops published more b.own begun loaded
        (one text b.opened.ops (published ++ more) b.opened.rest rest said says).0 b.opened.taken b.both
    | inr none ↦ elim (fresh text (published ++ more) rest says none.0) [ ]
  ]

  pub survivors_are_begun : (text : List ℕ) (loaded begun : List Operation) → IsRecordBegun text loaded begun
      → HasSurvivors text begun
  survivors_are_begun text loaded begun b book image published is left survives =
      begun_part text loaded begun b published
      (subst (λ known. IfSome known (λ i. (after : List ℕ) → IsLeftBy i after → (more : List Operation) × (rest : List ℕ) × SaysJournal after (published ++ more) rest)) is survives text left)

  -- the same of what was answered, where the tape is known
  pub survivors_are_answered : {J E : Type 0} (known : Option Image) (loaded : List Operation)
      (result : Result (J × List Operation) E)
      → IfOk result (λ begun. IfSome known (λ i. IsRecordBegun i.contents loaded begun.1))
      → IfOk result (λ begun. IfSome known (λ i. HasSurvivors i.contents begun.1))
  survivors_are_answered None loaded (Ok begun) whole = tt
  survivors_are_answered (Some i) loaded (Ok begun) whole = survivors_are_begun i.contents loaded begun.1 whole
  survivors_are_answered known loaded (Err fault) whole = tt

-- what a site had begun with and published is in what survived
pub all_again : (begun first more again : List Operation) → BeginsAgain begun first more again
    → IsPartOf (all_arrived begun more) again
all_again begun first more again b op h =
    b.survivors b.book b.image (first ++ more) b.known b.left b.kept op
    (sym (IsSameSet-append begun first more b.same op) ∙ sym (has-all_arrived begun more op) ∙ h)

known_image : (image : Option Image) → IsSome image → (i : Image) × (image ≡ Some i)
known_image None known = absurd (false≢true known)
known_image (Some i) known = (i, refl)

-- a site that runs again begins again
begins_again : (left begun : List Operation) (later : Option (List Operation)) (r : RunsAgain left begun later)
    → BeginsAgain r.ran.begun r.ran.first r.ran.more r.runs.begun
begins_again left begun later r =
    let image = known_image r.journal.image (r.ran.still_known r.known) in record {
      same = r.ran.same;
      book = r.journal;
      kept = r.ran.kept;
      image = image.0;
      known = image.1;
      text = r.reopened.contents;
      left = subst (λ known. IfSome known (λ i. IsLeftBy i r.reopened.contents)) image.1 r.crashed;
      survivors = r.runs.survivors;
    }

-- what was left comes back, and stays
left_begun : (left begun : List Operation) (later : Option (List Operation)) → RunsAgain left begun later
    → IsPartOf left begun
left_begun left begun later r op h =
    ap (λ ops. has ops op) r.begins
    ∙ all_again r.ran.begun r.ran.first r.ran.more r.runs.begun (begins_again left begun later r) op
    (ap (λ ops. has ops op) (sym r.ran.leaves) ∙ h)

left_later : (left begun further : List Operation) (later : Option (List Operation)) → IsPartOf left begun
    → IfSome later (λ ops. ops ≡ all_arrived begun further) → IfSome later (λ ops. IsPartOf left ops)
left_later left begun further None part is = tt
left_later left begun further (Some ops) part is = λ op h.
    ap (λ all. has all op) is ∙ kept-all_arrived begun further op (part op h)

pub left_again : (left begun : List Operation) (later : Option (List Operation)) → RunsAgain left begun later
    → IsPartOf left begun × IfSome later (λ ops. IsPartOf left ops)
left_again left begun later r = (
  left_begun left begun later r,
  left_later left begun r.runs.more later (left_begun left begun later r)
      (subst (λ one. IfSome later (λ ops. ops ≡ all_arrived one r.runs.more)) (sym r.begins) r.runs.leaves),
)
