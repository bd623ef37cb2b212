use Rattle.std.proofs.Common.{[], ◌∙◌, refl, sym, ap, subst, arith, append-nil, inl, length, Err}
use Rattle.std.proofs.KnownBytes.{Consumes-nil}
use Rattle.std.proofs.lemmas.Result.{err_from_is_err_and}
use Rattle.gossip_line.proofs.OneAnswer.{all_read, awaits_breaks, begun_breaks, not_in_answer, not_said, one_said}
use Rattle.gossip_line.specs.Pull.{IsNoAnswer, SaysOperation}
use Rattle.gossip_line.proofs.pull.read_round.Goals as goal

pub lines-init : goal.lines-init
lines-init g c = (
  record {
    lines = [];
    came = [];
    read = Consumes-nil _;
    operations = tt;
    say = c.new-ops.ensures.items;
    few = omega (arith, ap length c.new-ops.ensures.items);
    whole = append-nil c.args.reader.now.held;
  },
  refl,
  refl,
)

pub returns-in_err-await_line-clause-reads : goal.returns-in_err-await_line-clause-reads
returns-in_err-await_line-clause-reads g c =
    let p = err_from_is_err_and c.from_residual.result c.from_residual.ensures.1 in
    let so_far = c.lines.invariant in
    let awaits = c.in_err-await_line.ensures.awaits in
    let fault = c.in_err-await_line.field-0.0 in
    let broken = begun_breaks (g.S.Source.left c.await_line.new.source) awaits.0 fault so_far.0 awaits.1
    (awaits_breaks _ c.lines.reader c.await_line.new.reader awaits.0 _ _ fault so_far.1 awaits.2
    (λ e. c.in_err-await_line.ensures.end (ap Err e))) in
    (broken.0, broken.1, rw (p.1, p.2) broken.2)

pub returns-in-Some-clause-reads : goal.returns-in-Some-clause-reads
returns-in-Some-clause-reads g c =
    let so_far = c.lines.invariant in
    all_read c.lines.reader c.await_line.new.reader _ so_far.0 so_far.1 c.in_ok-await_line.ensures.awaits _
    (sym c.line.ensures ∙ c.in-Some.ensures.some)

pub returns-then-len-eq-ANSWER_LIMIT-clause-reads : goal.returns-then-len-eq-ANSWER_LIMIT-clause-reads
returns-then-len-eq-ANSWER_LIMIT-clause-reads g c =
    let so_far = c.lines.invariant in
    let awaits = c.in_ok-await_line.ensures.awaits in
    begun_breaks _ awaits.0 _ so_far.0 awaits.1
    (not_in_answer c.lines.reader c.await_line.new.reader _ so_far.0 so_far.1 awaits
    (λ more e. c.in_default.ensures.none more (c.line.ensures ∙ e))
    (inl (omega (arith, c.lines.ops.ok.0, c.len.ensures, c.if-len-eq-ANSWER_LIMIT.true))))

pub lines-preserved : goal.lines-preserved
lines-preserved g c =
    let so_far = c.lines.invariant in
    let added = c.in_ok-add_operation.ensures.ok in (
      one_said c.lines.reader c.await_line.new.reader _ so_far.0 so_far.1 c.in_ok-await_line.ensures.awaits added.0 _
          (subst (λ l. SaysOperation l added.0) c.line-in-lines.ensures added.1) added.2
          (omega (arith, so_far.0.few, c.lines.ops.ok.0, c.len.ensures, c.if-len-eq-ANSWER_LIMIT.false)),
      c.await_line.ensures.limit ∙ so_far.1,
      c.in_ok-await_line.ensures.counted ∙ so_far.2,
    )

pub returns-in_err-add_operation-clause-reads : goal.returns-in_err-add_operation-clause-reads
returns-in_err-add_operation-clause-reads g c =
    let returned = c.from_residual-in_err-add_operation in
    let p = err_from_is_err_and returned.result returned.ensures.1 in
    let so_far = c.lines.invariant in
    let awaits = c.in_ok-await_line.ensures.awaits in
    let fault = c.in_err-add_operation.field-0.0 in
    let broken = begun_breaks (g.S.Source.left c.await_line.new.source) awaits.0 fault so_far.0 awaits.1
    (not_said c.lines.reader c.await_line.new.reader _ so_far.0 so_far.1 awaits fault
    (λ more e. c.in_default.ensures.none more (c.line.ensures ∙ e))
    (subst (λ l. IsNoAnswer l fault) c.line-in-lines.ensures c.in_err-add_operation.ensures.err)) in
    (broken.0, broken.1, rw (p.1, p.2) broken.2)
