use Rattle.std.proofs.Common.{◌∙◌, ap, sym, length, take}
use Rattle.std.proofs.Math.Seq.{take-append_seam}
use Rattle.std.proofs.lemmas.Bool.{false≢true}
use Rattle.gossip_line.proofs.Words.{same_texts}
use Rattle.gossip_line.proofs.command.after.Goals as goal

pub returns-else-eq-clause-none : goal.returns-else-eq-clause-none
returns-else-eq-clause-none c = λ begins.
    let word = c.args.word.now in
    false≢true (sym c.if-eq.false ∙ c.eq.ensures
    ∙ same_texts c.split_at.result.0.now word
    (c.split_at.ensures.front ∙ ap (take (length word)) begins.1 ∙ take-append_seam word begins.0))
