use Rattle.std.proofs.Common.{Option, Some, None, List, ℕ, ◌≡◌, ◌<◌, ◌∙◌, ◌++◌, sym, subst, ap, arith, length, vec_len}
use Rattle.std.specs.Prelude.{IfSome}
use Rattle.std.proofs.KnownBytes.{Consumes-whole}
use Rattle.std.proofs.lemmas.Result.{IfOk-weaker, IfErr-weaker, err_from_is_err_and}
use Rattle.site_journal.specs.Text.{header_line, IsFresh}
use Rattle.site_journal.specs.Fault.{IsJournalRefusal}
use Rattle.site_journal.specs.Reading.{IsFoundText}
use Rattle.site_journal.proofs.Steps.{header_length, after_front, bad_header}
use Rattle.site_journal.proofs.reading.read_text.Goals as goal

pub judged-requires : goal.judged-requires
judged-requires g c = omega (arith, c.as_slice.ensures.len, c.in_ok-head.ensures.most)

pub returns-in-Whole-clause-found : goal.returns-in-Whole-clause-found
returns-in-Whole-clause-found g c =
    let is = sym c.as_slice.ensures.value ∙ c.in-Whole.ensures in
    IfOk-weaker c.read_lines.result
    (λ found. IfSome (g.F.Feed.left c.read_head.new.feed) (λ text. IsFoundText (header_line ++ text) found))
    (λ found. IfSome (g.F.Feed.left c.args.feed.now) (λ text. IsFoundText text found))
    (λ found. after_front (g.F.Feed.left c.args.feed.now) (g.F.Feed.left c.read_head.new.feed) c.in_ok-head.head.items (λ text. IsFoundText text found) (λ text. IsFoundText (header_line ++ text) found)
    c.in_ok-head.ensures.came (λ later k. subst (λ l. IsFoundText (l ++ later) found) (sym is) k))
    c.read_lines.ensures.found

pub returns-in-Whole-clause-refused : goal.returns-in-Whole-clause-refused
returns-in-Whole-clause-refused g c =
    let is = sym c.as_slice.ensures.value ∙ c.in-Whole.ensures in
    IfErr-weaker c.read_lines.result
    (λ fault. IfSome (g.F.Feed.left c.read_head.new.feed) (λ text. IsJournalRefusal (header_line ++ text) fault))
    (λ fault. IfSome (g.F.Feed.left c.args.feed.now) (λ text. IsJournalRefusal text fault))
    (λ fault. after_front (g.F.Feed.left c.args.feed.now) (g.F.Feed.left c.read_head.new.feed) c.in_ok-head.head.items (λ text. IsJournalRefusal text fault) (λ text. IsJournalRefusal (header_line ++ text) fault)
    c.in_ok-head.ensures.came (λ later k. subst (λ l. IsJournalRefusal (l ++ later) fault) (sym is) k))
    c.read_lines.ensures.refused

pub returns-in-Front-clause-found : goal.returns-in-Front-clause-found
returns-in-Front-clause-found g c =
    let few = c.in-Front.ensures.1 in
    let short : vec_len c.in_ok-head.head < 13 = omega (arith, few, header_length, c.as_slice.ensures.len) in
    Consumes-whole (g.F.Feed.left c.args.feed.now) (g.F.Feed.left c.read_head.new.feed) c.in_ok-head.head.items
    (λ text. IsFresh text × (length c.as_slice-in-Front.result.now ≡ length text))
    c.in_ok-head.ensures.came (c.in_ok-head.ensures.end short)
    (subst IsFresh c.as_slice.ensures.value c.in-Front.ensures, ap length c.as_slice-in-Front.ensures.value)

pub returns-clause-refused : goal.returns-clause-refused
returns-clause-refused g c =
    bad_header (g.F.Feed.left c.args.feed.now)
    (g.F.Feed.left c.read_head.new.feed) c.in_ok-head.head.items c.in_ok-head.ensures.came
    (omega (arith, ap length c.as_slice.ensures.value, c.as_slice.ensures.len, c.in_ok-head.ensures.most))
    (λ p. c.in-Other.ensures (p.0, p.1 ∙ ap (λ l. l ++ p.0) (sym c.as_slice.ensures.value)))

always : (left : Option (List ℕ)) (P : List ℕ → Type 0) → ((text : List ℕ) → P text) → IfSome left P
always None P f = tt
always (Some text) P f = f text

pub returns-in_err-head-clause-refused : goal.returns-in_err-head-clause-refused
returns-in_err-head-clause-refused g c =
    let p = err_from_is_err_and c.from_residual.result c.from_residual.ensures.1 in
    rw (p.1, p.2) (always (g.F.Feed.left c.args.feed.now) (λ text. IsJournalRefusal text c.in_err-head.field-0.0) c.in_err-head.ensures.fault)
