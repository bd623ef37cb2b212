use Rattle.std.proofs.Common.{◌∙◌, rules}
use Rattle.std.proofs.lemmas.Result.{err_from_is_err_and}
use Rattle.byte_ends.proofs.Moves.{took_more, took_front}
use Rattle.byte_ends.proofs.whole.write_all.Goals as goal

pub returns-in_err-count-clause-err : goal.returns-in_err-count-clause-err
returns-in_err-count-clause-err g c =
    let p = err_from_is_err_and c.from_residual.result c.from_residual.ensures.1 in
    let seen = c.loop-rest.invariant.0 in
    rw p.1 (took_front _ _ _ _ seen.0 _ seen.1 seen.2 (search rules) c.in_err-count.ensures.bytes)

pub loop-rest-preserved : goal.loop-rest-preserved
loop-rest-preserved g c =
    let seen = c.loop-rest.invariant.0 in
    (took_more _ _ _ _ seen.0 _ seen.1 seen.2 c.in_ok-count.count _ c.split_at.ensures.back c.in_ok-count.ensures.bytes, c.in_ok-count.ensures.counted ∙ c.loop-rest.invariant.1)
