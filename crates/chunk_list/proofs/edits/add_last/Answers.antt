use Rattle.std.proofs.Common.{◌≡◌, ◌∙◌, ◌<◌, ◌-◌, ◌++◌, ◌∷◌, [], length, ap, subst, arith}
use Rattle.std.proofs.lemmas.Result.{on_ok_weaker, on_err_weaker}
use Rattle.chunk_list.proofs.Pieces.{pushed, kept}
use Rattle.chunk_list.proofs.edits.add_last.Goals as goal

pub returns-then-has_room-clause-ok : goal.returns-then-has_room-clause-ok
returns-then-has_room-clause-ok g c =
    let chunks = c.args.chunks.now.items in
    let last = c.saturating_sub-last.result in
    let found = c.index_mut.result.now in
    let inside : last < length chunks = subst (λ l. last < length l) c.as_slice.ensures.value (c.has_room.ensures c.if-has_room.true) in
    let last_is : last ≡ length chunks - 1 = omega (arith, c.saturating_sub-last.ensures, c.len.ensures, c.args.chunks.now.ok.0) in
    on_ok_weaker c.add_to.result
    (λ e. pushed (λ c. c.items) chunks last found inside c.args.item c.add_to.new.chunk last_is (e ∙ ap (λ v. v.items ++ c.args.item ∷ []) c.index_mut.ensures.value))
    c.add_to.ensures.ok

pub returns-then-has_room-clause-err : goal.returns-then-has_room-clause-err
returns-then-has_room-clause-err g c =
    let chunks = c.args.chunks.now.items in
    let last = c.saturating_sub-last.result in
    let found = c.index_mut.result.now in
    let inside : last < length chunks = subst (λ l. last < length l) c.as_slice.ensures.value (c.has_room.ensures c.if-has_room.true) in
    on_err_weaker c.add_to.result
    (λ e. kept (λ c. c.items) chunks last found inside c.add_to.new.chunk (e ∙ ap (λ v. v.items) c.index_mut.ensures.value))
    c.add_to.ensures.err
