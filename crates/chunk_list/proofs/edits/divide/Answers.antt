use Rattle.std.proofs.Common.{◌∙◌, ◌++◌, set, take, ap, sym}
use Rattle.std.specs.List.{flat_map}
use Rattle.std.proofs.lemmas.List.{take-append-drop, append_assoc}
use Rattle.chunk_list.proofs.edits.divide.Goals as goal

pub returns-in-Ok-clause-same : goal.returns-in-Ok-clause-same
returns-in-Ok-clause-same g c =
    let first = c.args.first.now.items in
    let rest = flat_map (λ chunk. chunk.items) c.args.rest.now.items in
    let half = c.split_off.new.self.items in
    let second = c.in-Ok.second in
    ap (λ l. half ++ flat_map (λ chunk. chunk.items) (set l 0 second)) c.in_ok-insert.ensures.items
    ∙ sym (append_assoc half second.items rest)
    ∙ ap (λ l. l ++ rest) (ap (λ l. l ++ second.items) c.in-Ok.ensures.items ∙ ap (λ l. take 256 first ++ l) c.in-Ok.ensures.tail ∙ take-append-drop 256 first)
