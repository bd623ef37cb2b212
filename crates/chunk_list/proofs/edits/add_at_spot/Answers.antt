use Rattle.std.proofs.Common.{◌∙◌, ◌<◌, length, get_or, ap, arith}
use Rattle.std.specs.List.{insert}
use Rattle.std.proofs.lemmas.Result.{on_ok_weaker, on_err_weaker}
use Rattle.chunk_list.proofs.Pieces.{inserted, kept, index_inside}
use Rattle.chunk_list.proofs.edits.add_at_spot.Goals as goal

pub returns-clause-ok : goal.returns-clause-ok
returns-clause-ok g c =
    let chunks = c.args.chunks.now.items in
    let spot = c.args.spot in
    let found = c.index_mut.result.now in
    let inside : spot.chunk < length chunks = omega (arith, c.if-spot-len.false, c.len.ensures, c.args.chunks.now.ok.0) in
    let low : spot.index < length (get_or chunks spot.chunk found).items = index_inside (λ c. c.items) chunks spot.chunk spot.index found inside c.requires.inside in
    on_ok_weaker c.add_at.result
    (λ e. inserted (λ c. c.items) chunks spot.chunk found inside spot.index c.args.item c.add_at.new.chunk (omega (arith, low)) (e ∙ ap (λ v. insert v.items spot.index c.args.item) c.index_mut.ensures.value))
    c.add_at.ensures.ok

pub returns-clause-err : goal.returns-clause-err
returns-clause-err g c =
    let chunks = c.args.chunks.now.items in
    let spot = c.args.spot in
    let found = c.index_mut.result.now in
    let inside : spot.chunk < length chunks = omega (arith, c.if-spot-len.false, c.len.ensures, c.args.chunks.now.ok.0) in
    on_err_weaker c.add_at.result
    (λ e. kept (λ c. c.items) chunks spot.chunk found inside c.add_at.new.chunk (e ∙ ap (λ v. v.items) c.index_mut.ensures.value))
    c.add_at.ensures.err
