-- What is printed of two snapshots is the union of both.
use Rattle.std.proofs.Common.{◌≡◌, ℕ, ◌||◌, List, [], ◌++◌, sym, ap, ◌∙◌, refl}
use Rattle.std.proofs.lemmas.List.Folds.{list_any-append}
use Rattle.byte_ends.specs.Lines.{lines_of}
use Rattle.review_ops.specs.Operation.{Operation}
use Rattle.replica_core.specs.Journal.{same_operation, has, all_arrived}
use Rattle.replica_core.specs.InOrder.{IsInOrderOf}
use Rattle.snapshot_text.specs.Snapshot.{SaysOperations, snapshot_text}
use Rattle.commands.specs.Answers.{IsMergedText}

module _ (as_set : (journal ops : List Operation) (op : Operation) → has (all_arrived journal ops) op ≡ (has journal op || has ops op)) where
  -- what a journal has to which those of the first and then those of the second came
  has-union : (ops others : List Operation) (op : Operation)
      → has (all_arrived (all_arrived [] ops) others) op ≡ has (ops ++ others) op
  has-union ops others op =
      as_set (all_arrived [] ops) others op
      ∙ ap (λ t. t || has others op) (as_set [] ops op)
      ∙ sym (list_any-append (λ o. same_operation o op) ops others)

  pub is_merged : (first second : List ℕ) (ops others empty before journal : List Operation)
      → SaysOperations (lines_of first) ops → SaysOperations (lines_of second) others
      → empty ≡ [] → before ≡ all_arrived empty ops → journal ≡ all_arrived before others → (both : List Operation)
      → IsInOrderOf journal both → IsMergedText first second (snapshot_text both)
  is_merged first second ops others empty before journal of_first of_second none came came_too both ordered = record {
    ops = ops;
    others = others;
    of_first = of_first;
    of_second = of_second;
    both = both;
    union = record {
      sorted = ordered.sorted;
      members = λ op.
          ordered.members op
          ∙ ap (λ j. has j op) (came_too ∙ ap (λ j. all_arrived j others) (came ∙ ap (λ j. all_arrived j ops) none))
          ∙ has-union ops others op;
    };
    text = refl;
  }
