use Rattle.std.proofs.Common.{rules}
use Rattle.std.proofs.lemmas.Result.{err_from_is_err_and}
use Rattle.byte_ends.proofs.Moves.{read_more}
use Rattle.byte_ends.proofs.whole.read_all.Goals as goal

pub returns-in_err-read_piece-clause-lost : goal.returns-in_err-read_piece-clause-lost
returns-in_err-read_piece-clause-lost g c =
    let p = err_from_is_err_and c.from_residual.result c.from_residual.ensures.1 in
    let lost = c.in_err-read_piece.ensures.lost in
    let few = lost.1 in
    rw p.1 (read_more _ _ _ _ lost.0 c.args.limit c.loop-bytes.invariant.0 lost.2 (search rules))
