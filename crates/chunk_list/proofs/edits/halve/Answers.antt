use Rattle.std.proofs.Common.{◌≡◌, ◌∙◌, ◌<◌, ◌≤◌, ◌+◌, ◌++◌, suc, length, get_or, set, drop, ap, subst, sym, arith}
use Rattle.std.proofs.Common.{add-one}
use Rattle.std.specs.List.{All, flat_map, insert, remove}
use Rattle.std.proofs.lemmas.List.{take-append-drop, length-take-le, length-drop}
use Rattle.std.proofs.lemmas.List.Edits.{get_or-insert_below}
use Rattle.chunk_list.proofs.Pieces.{halved, halves_filled, undone}
use Rattle.chunk_list.proofs.edits.halve.Goals as goal

pub returns-in-Ok-clause-filled : goal.returns-in-Ok-clause-filled
returns-in-Ok-clause-filled g c =
    let chunks = c.args.chunks.now.items in
    let index = c.args.index in
    let found = c.index_mut-chunk.result.now in
    let first = c.split_off.new.self in
    let rest = c.in-Ok.rest in
    let here : found ≡ get_or chunks index found =
    c.index_mut-chunk.ensures.value ∙ ap (λ l. get_or l index found) c.in_ok-insert.ensures.items ∙ get_or-insert_below chunks (index + 1) c.new.result found index (omega arith) (omega (arith, c.requires.inside)) in
    let full : 512 ≤ length found.items = subst (λ v. 512 ≤ length v.items) (sym here) (c.requires.full found) in
    let some : 0 < length first.items = omega (arith, ap length c.in-Ok.ensures.items, length-take-le 256 found.items (omega (arith, full))) in
    let more : 0 < length rest.items = omega (arith, ap length c.in-Ok.ensures.tail, length-drop 256 found.items, full) in
    subst (All (λ v. 0 < length v.items))
    (sym (ap (λ l. set (set l index first) (index + 1) rest) (c.in_ok-insert.ensures.items ∙ ap (λ n. insert chunks n c.new.result) (add-one index))
    ∙ ap (λ n. set (set (insert chunks (suc index) c.new.result) index first) n rest) (add-one index)))
    (halves_filled (λ v. v.items) (λ v. 0 < length v.items) chunks index first rest c.new.result c.requires.inside c.requires.filled some more)

pub returns-in-Ok-clause-same : goal.returns-in-Ok-clause-same
returns-in-Ok-clause-same g c =
    let chunks = c.args.chunks.now.items in
    let index = c.args.index in
    let found = c.index_mut-chunk.result.now in
    let first = c.split_off.new.self in
    let rest = c.in-Ok.rest in
    let here : found ≡ get_or chunks index found =
    c.index_mut-chunk.ensures.value ∙ ap (λ l. get_or l index found) c.in_ok-insert.ensures.items ∙ get_or-insert_below chunks (index + 1) c.new.result found index (omega arith) (omega (arith, c.requires.inside)) in
    ap (flat_map (λ v. v.items))
    (ap (λ l. set (set l index first) (index + 1) rest) (c.in_ok-insert.ensures.items ∙ ap (λ n. insert chunks n c.new.result) (add-one index))
    ∙ ap (λ n. set (set (insert chunks (suc index) c.new.result) index first) n rest) (add-one index))
    ∙ halved (λ v. v.items) chunks index first rest c.new.result found c.requires.inside
    (ap (λ v. v.items) (sym here) ∙ sym (take-append-drop 256 found.items) ∙ ap (λ l. l ++ drop 256 found.items) (sym c.in-Ok.ensures.items) ∙ ap (λ l. first.items ++ l) (sym c.in-Ok.ensures.tail))

pub returns-in-Err-clause-filled : goal.returns-in-Err-clause-filled
returns-in-Err-clause-filled g c =
    let chunks = c.args.chunks.now.items in
    let index = c.args.index in
    let found = c.index_mut-chunk.result.now in
    let here : found ≡ get_or chunks index found =
    c.index_mut-chunk.ensures.value ∙ ap (λ l. get_or l index found) c.in_ok-insert.ensures.items ∙ get_or-insert_below chunks (index + 1) c.new.result found index (omega arith) (omega (arith, c.requires.inside)) in
    let back = c.remove-none.ensures.items
    ∙ ap (λ v. remove (set c.insert.new.self.items index v) (index + 1)) (c.in-Err.ensures.err ∙ here)
    ∙ ap (λ l. remove (set l index (get_or chunks index found)) (index + 1))
    (c.in_ok-insert.ensures.items ∙ ap (λ n. insert chunks n c.new.result) (add-one index))
    ∙ ap (remove (set (insert chunks (suc index) c.new.result) index (get_or chunks index found))) (add-one index)
    ∙ undone (λ v. v.items) chunks index c.new.result found c.requires.inside in
    subst (All (λ v. 0 < length v.items)) (sym back) c.requires.filled
