-- How a reading of a snapshot's lines goes on, line by line.
use Rattle.std.proofs.Common.{◌≤◌, ◌≡◌, ℕ, List, [], ◌∷◌, ◌++◌, length, refl, sym, ap, ◌∙◌, subst}
use Rattle.std.proofs.Common.{append_assoc}
use Rattle.std.proofs.lemmas.List.{append-nil}
use Rattle.std.specs.Prelude.{codes}
use Rattle.byte_ends.specs.Lines.{lines_of}
use Rattle.std.specs.Str.Parse.{digits_value}
use Rattle.review_ops.specs.Operation.{Operation}
use Rattle.op_text.specs.OneSpelling.{one_operation}
use Rattle.op_text.specs.Spelling.{SpellsOperation, IsRefusalOf}
use Rattle.op_text.specs.declared.field.Form.TheVariants as form
use Rattle.op_text.specs.declared.fault.OpTextFault.{OpTextFault}
use Rattle.op_text.specs.declared.fault.OpTextFault.TheVariants as op_fault
use Rattle.snapshot_text.specs.declared.fault.SnapFault.{SnapFault}
use Rattle.snapshot_text.specs.declared.fault.SnapFault.TheVariants.{BadHeader, BadLine, NoEnd, BadCount, AfterEnd}
use Rattle.snapshot_text.specs.declared.fault.SnapFault.TheVariants.{TooLong, ReadFault, NoMemory}
use Rattle.snapshot_text.specs.Snapshot.{IsEndLine, IsNoEndLine, IsOperationLine, AreOperationLines}
use Rattle.snapshot_text.specs.Snapshot.{BeginsWith, SaysOperations, IsFirstSnapFault, IsRefusal, IsOfText, most_bytes}
use Rattle.snapshot_text.specs.Reading.{IsLineFault, line_fault_of}

-- ---- lines of operations

AreOperationLines-push : (lines : List (List ℕ)) (ops : List Operation) (text : List ℕ) (op : Operation)
    → AreOperationLines lines ops → IsOperationLine text op → AreOperationLines (lines ++ text ∷ []) (ops ++ op ∷ [])
AreOperationLines-push [] [] text op are is = (is, tt)
AreOperationLines-push [] (o ∷ ops) text op are is = absurd are
AreOperationLines-push (l ∷ lines) [] text op are is = absurd are
AreOperationLines-push (l ∷ lines) (o ∷ ops) text op are is = (are.0, AreOperationLines-push lines ops text op are.1 is)

pub BeginsWith-push : {lines : List (List ℕ)} {ops : List Operation} {rest : List (List ℕ)} (text : List ℕ) (op : Operation)
    → BeginsWith lines ops (text ∷ rest) → IsOperationLine text op → BeginsWith lines (ops ++ op ∷ []) rest
BeginsWith-push {lines} {ops} {rest} text op begins is = record {
  first = begins.first;
  front = begins.front ++ text ∷ [];
  form = begins.form ∙ ap (λ l. begins.first ∷ l) (sym (append_assoc begins.front (text ∷ []) rest));
  header = begins.header;
  operations = AreOperationLines-push begins.front ops text op begins.operations is;
}

-- ---- end lines

same_digits : (c d : List ℕ) → codes "end " ++ c ≡ codes "end " ++ d → c ≡ d
same_digits c d e = cc

one_number : (text : List ℕ) (m n : ℕ) → IsEndLine text m → IsEndLine text n → m ≡ n
one_number text m n a b =
    sym a.value ∙ ap (digits_value 10) (same_digits a.digits b.digits (sym a.form ∙ b.form)) ∙ b.value

-- ---- what the rest of the lines says

-- the rest of the lines says what is left of the whole once some are done
pub record SaysFrom (rest : List (List ℕ)) (done whole : List Operation) : Type 0 where
  later : List Operation
  front : List (List ℕ)
  last : List ℕ
  split : whole ≡ done ++ later
  form : rest ≡ front ++ last ∷ []
  operations : AreOperationLines front later
  end : IsEndLine last (length whole)

from_start : {lines rest : List (List ℕ)} {whole : List Operation} (first : List ℕ) → lines ≡ first ∷ rest
    → SaysOperations lines whole → SaysFrom rest [] whole
from_start {lines} {rest} {whole} first e says = record {
  later = whole;
  front = says.1.front;
  last = says.0;
  split = refl;
  form = cc (e, says.1.form);
  operations = says.1.operations;
  end = says.2;
}

-- lines that run out say nothing
pub none_left : {done whole : List Operation} → SaysFrom [] done whole → ⊥
none_left {done} {whole} says = empty says.front says.form
  where
    empty : (front : List (List ℕ)) → [] ≡ front ++ says.last ∷ [] → ⊥
    empty [] e = cc
    empty (l ∷ front) e = cc

pub record AtEnd (rest : List (List ℕ)) (done whole : List Operation) (n : ℕ) : Type 0 where
  pub none : rest ≡ []
  pub all : whole ≡ done
  pub number : n ≡ length whole

pub at_end : (last : List ℕ) (rest : List (List ℕ)) (done whole : List Operation) (n : ℕ) → IsEndLine last n
    → SaysFrom (last ∷ rest) done whole → AtEnd rest done whole n
at_end last rest done whole n is says = by_front says.front says.later says.form says.operations says.split
  where
    by_front : (front : List (List ℕ)) (later : List Operation) → last ∷ rest ≡ front ++ says.last ∷ []
        → AreOperationLines front later → whole ≡ done ++ later → AtEnd rest done whole n
    by_front [] [] e are split = record {
      none = cc;
      all = split ∙ append-nil done;
      number = let same : says.last ≡ last = cc in one_number last n (length whole) is
          (subst (λ t. IsEndLine t (length whole)) same says.end);
    }
    by_front [] (o ∷ later) e are split = absurd are
    by_front (l ∷ front) [] e are split = absurd are
    by_front (l ∷ front) (o ∷ later) e are split = let same : last ≡ l = cc in absurd
        (are.0.other n (subst (λ t. IsEndLine t n) same is))

-- a line that is no end line spells the next operation
pub record AtLine (text : List ℕ) (rest : List (List ℕ)) (done whole : List Operation) : Type 0 where
  pub op : Operation
  pub spells : SpellsOperation text op
  pub says : SaysFrom rest (done ++ op ∷ []) whole

pub at_line : (text : List ℕ) (rest : List (List ℕ)) (done whole : List Operation) → IsNoEndLine text
    → SaysFrom (text ∷ rest) done whole → AtLine text rest done whole
at_line text rest done whole other says = by_front says.front says.later says.form says.operations says.split
  where
    by_front : (front : List (List ℕ)) (later : List Operation) → text ∷ rest ≡ front ++ says.last ∷ []
        → AreOperationLines front later → whole ≡ done ++ later → AtLine text rest done whole
    by_front [] later e are split = let same : says.last ≡ text = cc in absurd
        (other (length whole) (subst (λ t. IsEndLine t (length whole)) same says.end))
    by_front (l ∷ front) [] e are split = absurd are
    by_front (l ∷ front) (o ∷ later) e are split = let same : l ≡ text = cc in record {
      op = o;
      spells = subst (λ t. SpellsOperation t o) same are.0.spells;
      says = record {
        later = later;
        front = front;
        last = says.last;
        split = split ∙ sym (append_assoc done (o ∷ []) later);
        form = cc;
        operations = are.1;
        end = says.end;
      };
    }

-- what the rest of the lines says, where the lines before it are known
says_after : (front : List (List ℕ)) (ops done whole : List Operation) (rest : List (List ℕ))
    → AreOperationLines front ops → SaysFrom (front ++ rest) done whole → SaysFrom rest (done ++ ops) whole
says_after [] [] done whole rest are says = subst (λ d. SaysFrom rest d whole) (sym (append-nil done)) says
says_after [] (o ∷ ops) done whole rest are says = absurd are
says_after (l ∷ front) [] done whole rest are says = absurd are
says_after (l ∷ front) (o ∷ ops) done whole rest are says =
    let at = at_line l (front ++ rest) done whole are.0.other says in
    let next = subst (λ x. SaysFrom (front ++ rest) (done ++ x ∷ []) whole) (one_operation l at.op o at.spells are.0.spells) at.says in
    subst (λ d. SaysFrom rest d whole) (append_assoc done (o ∷ []) ops) (says_after front ops (done ++ o ∷ []) whole rest are.1 next)

pub says_rest : (lines rest : List (List ℕ)) (ops whole : List Operation) → BeginsWith lines ops rest
    → SaysOperations lines whole → SaysFrom rest ops whole
says_rest lines rest ops whole begins says =
    says_after begins.front ops [] whole rest begins.operations (from_start begins.first begins.form says)

-- what lines begin with is still so where more come
pub BeginsWith-more : (lines rest more : List (List ℕ)) (ops : List Operation) → BeginsWith lines ops rest
    → BeginsWith (lines ++ more) ops (rest ++ more)
BeginsWith-more lines rest more ops begins = record {
  first = begins.first;
  front = begins.front;
  form = ap (λ l. l ++ more) begins.form ∙ ap (λ l. begins.first ∷ l) (append_assoc begins.front rest more);
  header = begins.header;
  operations = begins.operations;
}

-- a refused line
pub line_refused : (text : List ℕ) (number : ℕ) (cause : OpTextFault) → IsRefusalOf form.Operation text cause
    → ((op : Operation) → SpellsOperation text op → cause ≡ op_fault.NoMemory)
    → IsLineFault text number (line_fault_of number cause)
line_refused text number op_fault.NotJson refusal only = (refl, refusal, λ op spells. let e = only op spells in cc)
line_refused text number (op_fault.BadShape key) refusal only = (refl, refusal, λ op spells. let e = only op spells in cc)
line_refused text number (op_fault.BadBody fault) refusal only = (refl, refusal, λ op spells. let e = only op spells in cc)
line_refused text number op_fault.NoMemory refusal only = tt

-- ---- from the lines to the bytes

pub refusal_of : (text : List ℕ) (fault : SnapFault) → length text ≤ most_bytes → IsFirstSnapFault (lines_of text) fault
    → IsRefusal text fault × IsOfText fault
refusal_of text BadHeader within is = ((within, is), ((λ e. cc), (λ e. cc)))
refusal_of text (BadLine n cause) within is = ((within, is), ((λ e. cc), (λ e. cc)))
refusal_of text NoEnd within is = ((within, is), ((λ e. cc), (λ e. cc)))
refusal_of text BadCount within is = ((within, is), ((λ e. cc), (λ e. cc)))
refusal_of text AfterEnd within is = ((within, is), ((λ e. cc), (λ e. cc)))
refusal_of text TooLong within is = absurd is
refusal_of text ReadFault within is = absurd is
refusal_of text NoMemory within is = (tt, ((λ e. cc), (λ e. cc)))
