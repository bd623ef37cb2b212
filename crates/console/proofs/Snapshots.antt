-- A snapshot on the input that is refused, as an input of a command.
use Rattle.std.proofs.Common.{◌≡◌, ◌∙◌, ℕ, false, true, cond, List, [], Option, Some, Result, Ok, Err}
use Rattle.std.proofs.Common.{arith, refl, sym, ap, subst, inl, inr}
use Rattle.std.specs.Prelude.{IfErr, MatchResult}
use Rattle.std.specs.Borrow.{Bor}
use Rattle.byte_ends.specs.Failures.{OneFailed}
use Rattle.byte_ends.specs.declared.faults.BytesFault.TheVariants as bytes
use Rattle.snapshot_text.specs.Snapshot.{CountsSnapFault, IsRefusedBy, IsWhole, most_bytes}
use Rattle.snapshot_text.specs.declared.fault.SnapFault.{SnapFault}
use Rattle.snapshot_text.specs.declared.fault.SnapFault.TheVariants.{BadHeader, BadLine, NoEnd, BadCount, AfterEnd}
use Rattle.snapshot_text.specs.declared.fault.SnapFault.TheVariants.{TooLong, ReadFault, NoMemory}
use Rattle.console.specs.Console.{ConsoleState, Contents, IsRead, Records, contents_of, file_of, is_input, one_more}
use Rattle.console.specs.Console.{once_failed, once_read}
use Rattle.console.specs.Inputs.{IsRefused, input, snapshot_file}
use Rattle.console.specs.declared.refusals.Refusal.TheVariants.{Snapshot}

-- of what was read, where that left the state so, by how often reading had failed before and then
module _ (named : Bor (List ℕ)) (old after : ConsoleState) (before failed : ℕ)
    (once : failed ≡ before → after ≡ once_read named.now old)
    (lost : OneFailed before failed → after ≡ once_failed named.now old) where
  read : (text : List ℕ) → IsWhole (contents_of named.now old) text → failed ≡ before
      → IsRead named.now most_bytes old after text
  read text whole same = record { whole = whole.same; short = whole.within; after = once same }

  refused : (fault : SnapFault) → IsRefusedBy (contents_of named.now old) fault → CountsSnapFault before failed fault
      → IsRefused (input snapshot_file named.now) old after (Snapshot fault named)
  refused BadHeader by same =
      inr (by.0, read by.0 by.1 same, (BadHeader, (named, refl, refl), (by.1.within, by.2), ((λ e. cc), (λ e. cc))))
  refused (BadLine n cause) by same =
      inr (by.0, read by.0 by.1 same, (BadLine n cause, (named, refl, refl), (by.1.within, by.2), ((λ e. cc), (λ e. cc))))
  refused NoEnd by same =
      inr (by.0, read by.0 by.1 same, (NoEnd, (named, refl, refl), (by.1.within, by.2), ((λ e. cc), (λ e. cc))))
  refused BadCount by same =
      inr (by.0, read by.0 by.1 same, (BadCount, (named, refl, refl), (by.1.within, by.2), ((λ e. cc), (λ e. cc))))
  refused AfterEnd by same =
      inr (by.0, read by.0 by.1 same, (AfterEnd, (named, refl, refl), (by.1.within, by.2), ((λ e. cc), (λ e. cc))))
  refused TooLong by same = inl (bytes.TooLong, (named, refl, refl), (by, once same))
  refused ReadFault by one = inl (bytes.ReadFault, (named, refl, refl), lost one)
  refused NoMemory by same = inl (bytes.NoMemory, (named, refl, refl), once same)

  any_refused : {T : Type 0} (r : Result T SnapFault) (known : Option (List ℕ)) → known ≡ contents_of named.now old
      → IfErr r (λ fault. IsRefusedBy known fault)
      → MatchResult r (λ _. failed ≡ before) (CountsSnapFault before failed)
      → IfErr r (λ fault. IsRefused (input snapshot_file named.now) old after (Snapshot fault named))
  any_refused (Ok both) known contents by counts = tt
  any_refused (Err fault) known contents by counts =
      refused fault (subst (λ k. IsRefusedBy k fault) contents by) counts

-- of the input, where `known` is what it had left
pub input_refused : (named : Bor (List ℕ)) (old : ConsoleState) (failed : ℕ) → is_input named.now ≡ true
    → {T : Type 0} (r : Result T SnapFault) (known : Option (List ℕ)) → known ≡ old.left
    → IfErr r (λ fault. IsRefusedBy known fault)
    → MatchResult r (λ _. failed ≡ old.input_failed) (CountsSnapFault old.input_failed failed)
    → IfErr r (λ fault. IsRefused (input snapshot_file named.now) old
    (record old { left = Some []; input_failed = failed }) (Snapshot fault named))
input_refused named old failed is r known left by counts =
    any_refused named old (record old { left = Some []; input_failed = failed }) old.input_failed failed
    (λ same. ap (λ n. record old { left = Some []; input_failed = n }) same
    ∙ sym (ap (λ t. cond t (record old { left = Some [] }) old) is))
    (λ one. ap (λ n. record old { left = Some []; input_failed = n }) one
    ∙ sym (ap (λ t. cond t (record old { left = Some []; input_failed = one_more old.input_failed })
    (record old { files_failed = one_more old.files_failed })) is))
    r known (left ∙ sym (ap (λ t. cond t old.left (file_of old.files named.now)) is)) by counts

-- of a file, whose reading keeps what is known of the files and the sites
pub file_refused : (named : Bor (List ℕ)) (old : ConsoleState) (files : Contents) (sites : Records) (failed : ℕ)
    → is_input named.now ≡ false → files ≡ old.files → sites ≡ old.sites
    → {T : Type 0} (r : Result T SnapFault) → IfErr r (λ fault. IsRefusedBy (file_of old.files named.now) fault)
    → MatchResult r (λ _. failed ≡ old.files_failed) (CountsSnapFault old.files_failed failed)
    → IfErr r (λ fault. IsRefused (input snapshot_file named.now) old
    (record old { files = files; sites = sites; files_failed = failed }) (Snapshot fault named))
file_refused named old files sites failed is same_files same_sites r by counts =
    any_refused named old (record old { files = files; sites = sites; files_failed = failed }) old.files_failed failed
    (λ same. (λ i. record old { files = same_files i; sites = same_sites i; files_failed = same i })
    ∙ sym (ap (λ t. cond t (record old { left = Some [] }) old) is))
    (λ one. (λ i. record old { files = same_files i; sites = same_sites i; files_failed = one i })
    ∙ sym (ap (λ t. cond t (record old { left = Some []; input_failed = one_more old.input_failed })
    (record old { files_failed = one_more old.files_failed })) is))
    r (file_of old.files named.now) (sym (ap (λ t. cond t old.left (file_of old.files named.now)) is)) by counts

-- an input that is spent has no header
pub spent_refused : (named : Bor (List ℕ)) (old : ConsoleState) → is_input named.now ≡ true → Some [] ≡ old.left
    → IsRefused (input snapshot_file named.now) old old (Snapshot BadHeader named)
spent_refused named old is none =
    let says : IsRefusedBy (Some []) BadHeader =
    ([], record { same = refl; within = omega arith }, λ first rest e. cc) in
    let by : Result (Unit {0}) SnapFault = Err BadHeader in
    subst (λ l. IsRefused (input snapshot_file named.now) old (record old { left = l }) (Snapshot BadHeader named)) none
    (input_refused named old old.input_failed is by (Some []) none says refl)
