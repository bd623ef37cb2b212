use Rattle.std.proofs.Common.{◌≤◌, ◌<◌, [], refl, sym, subst, ap, ◌∙◌, ◌++◌, arith, append_assoc, append-nil, length}
use Rattle.std.proofs.Common.{length-append}
use Rattle.std.proofs.KnownBytes.{Consumes-nil, Consumes-trans, Consumes-whole}
use Rattle.std.proofs.Common.{◌≡◌, ℕ, List, Option, None, Some, Result, Ok, Err}
use Rattle.std.specs.Prelude.{IfSome, IfErr, MatchResult}
use Rattle.std.proofs.lemmas.Result.{err_from_is_err_and, IfOk-weaker, IfErr-weaker}
use Rattle.site_journal.specs.declared.fault.JournalFault.{JournalFault}
use Rattle.site_journal.specs.declared.fault.JournalFault.TheVariants.{NoMemory}
use Rattle.site_journal.specs.Text.{header_line}
use Rattle.site_journal.specs.Fault.{CountsJournalFault, IsJournalRefusal, most_text}
use Rattle.site_journal.specs.Reading.{HasRead, IsFoundText}
use Rattle.site_journal.proofs.Steps.{header_length, held_within, after_front, with_front}
use Rattle.site_journal.proofs.reading.read_lines.Goals as goal

unknown : (left : Option (List ℕ)) → IfSome left (λ text. Unit {0})
unknown None = tt
unknown (Some text) = tt

-- want of memory isn't counted
counted_so : {T : Type 0} (r : Result T JournalFault) (old new : ℕ) → new ≡ old → IfErr r (λ fault. fault ≡ NoMemory)
    → MatchResult r (λ _. new ≡ old) (CountsJournalFault old new)
counted_so (Ok x) old new same is = same
counted_so (Err fault) old new same is = subst (CountsJournalFault old new) (sym is) same

pub loop-seen-init : goal.loop-seen-init
loop-seen-init g c = record {
  came = [];
  read = Consumes-nil (g.F.Feed.left c.args.feed.now);
  seen = omega (arith, ap length (append-nil header_line), header_length);
  exact = λ few. sym (ap length (append-nil header_line) ∙ header_length);
  has = subst (λ l. HasRead l c.new-reading.result.gathering c.new-reading.result.held.items c.new-reading.result.next)
      (sym (append-nil header_line)) c.new-reading.ensures;
  some = c.in_ok-piece.ensures.0;
  large = c.in_ok-piece.ensures.1;
  same = refl;
  counted = refl;
}

pub loop-seen-preserved : goal.loop-seen-preserved
loop-seen-preserved g c =
    let before = c.loop-seen.invariant in
    let exactly = before.exact (omega (arith, c.loop-seen-test.true)) in
    let read = c.in_ok-count.ensures.read in record {
      came = before.came ++ read.0;
      read = Consumes-trans _ _ _ before.came read.0 before.read read.2;
      seen = omega (arith, exactly, read.1, c.saturating_add-seen.ensures, length-append header_line (before.came ++ read.0), length-append header_line before.came, length-append before.came read.0);
      exact = λ few. omega (arith, few, exactly, read.1, c.saturating_add-seen.ensures, length-append header_line (before.came ++ read.0), length-append header_line before.came, length-append before.came read.0);
      has = subst
          (λ l. HasRead l c.read_block.new.self.gathering c.read_block.new.self.held.items c.read_block.new.self.next)
          (append_assoc header_line before.came read.0) (read.3 (header_line ++ before.came) before.has);
      some = c.in_ok-piece-in_default.ensures.0;
      large = c.in_ok-piece-in_default.ensures.1;
      same = c.in_ok-count.ensures.same ∙ before.same;
      counted = c.in_ok-count.ensures.counted ∙ before.counted;
    }

pub returns-in_err-count-clause-refused : goal.returns-in_err-count-clause-refused
returns-in_err-count-clause-refused g c =
    let before = c.loop-seen.invariant in
    let p = err_from_is_err_and c.from_residual-in_err-count.result c.from_residual-in_err-count.ensures.1 in
    rw (p.1, p.2) (
    after_front (g.F.Feed.left c.args.feed.now) (g.F.Feed.left c.loop-seen.feed) before.came
    (λ text. IsJournalRefusal (header_line ++ text) c.in_err-count.field-0.0)
    (λ more. IsJournalRefusal ((header_line ++ before.came) ++ more) c.in_err-count.field-0.0) before.read
    (λ later h. subst (λ l. IsJournalRefusal l c.in_err-count.field-0.0) (append_assoc header_line before.came later) h)
    (c.in_err-count.ensures.refused (header_line ++ before.came) before.has)
    )

pub found-requires : goal.found-requires
found-requires g c =
    let before = c.loop-seen.invariant in
    let exactly = before.exact (omega (arith, c.loop-seen-test.true)) in
    let read = c.in_ok-count.ensures.read in
    let few : length c.read_block.new.self.held.items ≤ length ((header_line ++ before.came) ++ read.0) =
    held_within ((header_line ++ before.came) ++ read.0) c.read_block.new.self.gathering c.read_block.new.self.held.items c.read_block.new.self.next (read.3 (header_line ++ before.came) before.has) in
    omega (arith, few, read.1, c.in-0.is, exactly, length-append (header_line ++ before.came) read.0)

pub returns-in-0-clause-found : goal.returns-in-0-clause-found
returns-in-0-clause-found g c =
    let before = c.loop-seen.invariant in
    let exactly = before.exact (omega (arith, c.loop-seen-test.true)) in
    let read = c.in_ok-count.ensures.read in
    let some : 0 < length c.as_mut_slice.result.now = omega (arith, c.as_mut_slice.ensures.len, before.some) in
    IfOk-weaker c.found.result _ _ (λ found finds. Consumes-whole (g.F.Feed.left c.args.feed.now) (g.F.Feed.left c.read_block.new.feed) (before.came ++ read.0)
    (λ text. IsFoundText (header_line ++ text) found)
    (Consumes-trans _ _ _ before.came read.0 before.read read.2)
    (c.in_ok-count.ensures.end c.in-0.is some)
    (finds (header_line ++ (before.came ++ read.0))
    (subst (λ l. HasRead l c.read_block.new.self.gathering c.read_block.new.self.held.items c.read_block.new.self.next) (append_assoc header_line before.came read.0) (read.3 (header_line ++ before.came) before.has))
    (omega (arith, exactly, read.1, c.in-0.is, length-append header_line (before.came ++ read.0), length-append header_line before.came, length-append before.came read.0)))) c.found.ensures.found

pub returns-in-0-clause-refused : goal.returns-in-0-clause-refused
returns-in-0-clause-refused g c = IfErr-weaker c.found.result _ _ (λ fault is. subst (λ f. IfSome (g.F.Feed.left c.args.feed.now) (λ text. IsJournalRefusal (header_line ++ text) f)) (sym is) (unknown (g.F.Feed.left c.args.feed.now))) c.found.ensures.refused

pub returns-in-0-clause-counted : goal.returns-in-0-clause-counted
returns-in-0-clause-counted g c = counted_so c.found.result (g.F.Feed.failed c.args.feed.now) (g.F.Feed.failed c.read_block.new.feed)
    (c.in_ok-count.ensures.counted ∙ c.loop-seen.invariant.counted) c.found.ensures.refused

pub returns-clause-refused : goal.returns-clause-refused
returns-clause-refused g c =
    let before = c.loop-seen.invariant in
    with_front (g.F.Feed.left c.args.feed.now) (g.F.Feed.left c.loop-seen.feed) before.came
    (λ text. most_text < length (header_line ++ text)) before.read
    (λ later. omega (arith, before.seen, c.loop-seen-test.false, length-append header_line (before.came ++ later), length-append header_line before.came, length-append before.came later))
