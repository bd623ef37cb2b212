-- How the lines of a snapshot are taken, one after the other.
use Rattle.std.proofs.Common.{◌≡◌, ◌≢◌, ℕ, ◌+◌, List, [], ◌∷◌, ◌++◌, length, refl, sym, ap, subst, ◌∙◌, arith}
use Rattle.std.proofs.Common.{length-append}
use Rattle.std.proofs.Common.{Result, Ok, Err}
use Rattle.std.specs.Prelude.{MatchResult, OnOk, IfErr}
use Rattle.review_ops.specs.Operation.{Operation}
use Rattle.op_text.specs.Spelling.{SpellsOperation}
use Rattle.replica_core.specs.JournalLaws.{all_arrived-push}
use Rattle.replica_core.specs.Journal.{arrived}
use Rattle.snapshot_text.specs.declared.fault.SnapFault.{SnapFault}
use Rattle.snapshot_text.specs.declared.fault.SnapFault.TheVariants.{BadHeader, BadLine, NoEnd, BadCount, AfterEnd}
use Rattle.snapshot_text.specs.declared.fault.SnapFault.TheVariants.{TooLong, ReadFault, NoMemory}
use Rattle.snapshot_text.specs.declared.progress.Stage.TheVariants.{Header, Operations, Ended}
use Rattle.snapshot_text.specs.Snapshot.{IsHeader, IsEndLine, IsNoEndLine}
use Rattle.snapshot_text.specs.Progress.{Stands, IsFaultIn}
use Rattle.snapshot_text.specs.Reading.{IsLineFault}
use Rattle.snapshot_text.proofs.Reading.{BeginsWith-push, BeginsWith-more, says_rest, none_left, at_end, at_line}

-- ---- by what was answered
pub ok_of : {T E R : Type 0} (P : T → Type 0) (Q : E → Type 0) (r : Result T E) → MatchResult r P Q
    → ((x : T) → P x → R) → OnOk r R
ok_of P Q (Ok x) is f = f x is
ok_of P Q (Err e) is f = tt

pub err_of : {T E : Type 0} (P : T → Type 0) (Q S : E → Type 0) (r : Result T E) → MatchResult r P Q
    → ((e : E) → Q e → S e) → IfErr r S
err_of P Q S (Ok x) is f = tt
err_of P Q S (Err e) is f = f e is

-- memory may be refused at any lines
pub refused : (lines : List (List ℕ)) → IsFaultIn lines NoMemory
refused lines = record { first = tt; only = λ ops says. refl }

no_line : (l : List ℕ) (lines : List (List ℕ)) → [] ≡ l ∷ lines → ⊥
no_line l lines e = cc

same_first : (l m : List ℕ) (lines others : List (List ℕ)) → l ∷ lines ≡ m ∷ others → l ≡ m
same_first l m lines others e = cc

module _ (base : List Operation) (lines : List (List ℕ)) (journal : List Operation) (count : ℕ) where
  -- ---- the first line
  pub header_taken : (line : List ℕ) → Stands base lines Header journal count → IsHeader line
      → Stands base (lines ++ line ∷ []) Operations journal count
  header_taken line stands header = (
    [],
    record {
      first = line;
      front = [];
      form = ap (λ l. l ++ line ∷ []) stands.0;
      header = header;
      operations = tt;
    },
    stands.1,
    stands.2,
  )

  pub bad_header : (line : List ℕ) (later : List (List ℕ)) → Stands base lines Header journal count → ¬ IsHeader line
      → IsFaultIn (lines ++ line ∷ later) BadHeader
  bad_header line later stands none =
      let form : lines ++ line ∷ later ≡ line ∷ later = ap (λ l. l ++ line ∷ later) stands.0 in record {
        first = λ first rest e header. none (subst IsHeader (sym (same_first line first later rest (sym form ∙ e))) header);
        only = λ ops says. absurd (none (subst IsHeader (sym (same_first line says.1.first later (says.1.front ++ says.0 ∷ []) (sym form ∙ says.1.form))) says.1.header));
      }

  pub no_header : Stands base lines Header journal count → IsFaultIn lines BadHeader
  no_header stands = record {
    first = λ first rest e header. no_line first rest (sym stands.0 ∙ e);
    only = λ ops says. absurd (no_line says.1.first (says.1.front ++ says.0 ∷ []) (sym stands.0 ∙ says.1.form));
  }

  -- ---- an operation
  pub operation_taken : (line : List ℕ) (op : Operation) → Stands base lines Operations journal count
      → IsNoEndLine line → SpellsOperation line op
      → Stands base (lines ++ line ∷ []) Operations (arrived journal op) (count + 1)
  operation_taken line op stands other spells = (
    stands.0 ++ op ∷ [],
    BeginsWith-push line op (BeginsWith-more lines [] (line ∷ []) stands.0 stands.1)
        (record { other = other; spells = spells }),
    ap (λ j. arrived j op) stands.2 ∙ sym (all_arrived-push base stands.0 op),
    omega (arith, length-append stands.0 (op ∷ []), stands.3),
  )

  pub bad_line : (line : List ℕ) (later : List (List ℕ)) (fault : SnapFault) → Stands base lines Operations journal count
      → IsNoEndLine line → IsLineFault line (count + 2) fault → IsFaultIn (lines ++ line ∷ later) fault
  bad_line line later BadHeader stands other is = absurd is
  bad_line line later (BadLine n cause) stands other is =
      let begins = BeginsWith-more lines [] (line ∷ later) stands.0 stands.1 in record {
        first = (stands.0, line, later, begins, is.0 ∙ ap (λ k. k + 2) stands.3, other, is.1);
        only = λ ops says.
            let at = at_line line later stands.0 ops other (says_rest (lines ++ line ∷ later) (line ∷ later) stands.0 ops begins says) in
            absurd (is.2 at.op at.spells);
      }
  bad_line line later NoEnd stands other is = absurd is
  bad_line line later BadCount stands other is = absurd is
  bad_line line later AfterEnd stands other is = absurd is
  bad_line line later TooLong stands other is = absurd is
  bad_line line later ReadFault stands other is = absurd is
  bad_line line later NoMemory stands other is = refused (lines ++ line ∷ later)

  -- ---- the end line
  pub end_taken : (line : List ℕ) (said : ℕ) → Stands base lines Operations journal count → IsEndLine line said
      → said ≡ count → Stands base (lines ++ line ∷ []) Ended journal count
  end_taken line said stands is same = (
    stands.0,
    (
      line,
      BeginsWith-more lines [] (line ∷ []) stands.0 stands.1,
      subst (IsEndLine line) (same ∙ stands.3) is,
    ),
    stands.2,
  )

  pub bad_count : (line : List ℕ) (later : List (List ℕ)) (said : ℕ) → Stands base lines Operations journal count
      → IsEndLine line said → said ≢ count → IsFaultIn (lines ++ line ∷ later) BadCount
  bad_count line later said stands is differs =
      let begins = BeginsWith-more lines [] (line ∷ later) stands.0 stands.1 in record {
        first = (stands.0, line, later, begins, said, is, λ e. differs (e ∙ sym stands.3));
        only = λ ops says.
            let at = at_end line later stands.0 ops said is (says_rest (lines ++ line ∷ later) (line ∷ later) stands.0 ops begins says) in
            absurd (differs (at.number ∙ ap length at.all ∙ sym stands.3));
      }

  pub no_end : Stands base lines Operations journal count → IsFaultIn lines NoEnd
  no_end stands = record {
    first = (stands.0, stands.1);
    only = λ ops says. absurd (none_left (says_rest lines [] stands.0 ops stands.1 says));
  }

  -- ---- after it
  pub after_end : (line : List ℕ) (later : List (List ℕ)) → Stands base lines Ended journal count
      → IsFaultIn (lines ++ line ∷ later) AfterEnd
  after_end line later stands =
      let last = stands.1.0 in
      let begins = BeginsWith-more lines (last ∷ []) (line ∷ later) stands.0 stands.1.1 in record {
        first = (stands.0, last, line, later, begins, stands.1.2);
        only = λ ops says.
            let at = at_end last (line ∷ later) stands.0 ops (length stands.0) stands.1.2 (says_rest (lines ++ line ∷ later) (last ∷ line ∷ later) stands.0 ops begins says) in
            absurd (no_line line later (sym at.none));
      }
