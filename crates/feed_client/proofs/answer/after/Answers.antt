use Rattle.std.proofs.Common.{◌∙◌, sym, ap, take, length, refl}
use Rattle.std.proofs.lemmas.Bool.{false≢true}
use Rattle.std.proofs.lemmas.Bool.Decides.{Decides-eqb}
use Rattle.std.proofs.lemmas.Slice.Eq.{slice_eq-Decides}
use Rattle.std.proofs.Math.Seq.{take-append_seam}
use Rattle.feed_client.proofs.answer.after.Goals as goal

pub returns-else-eq-clause-none : goal.returns-else-eq-clause-none
returns-else-eq-clause-none c = λ _ text is. false≢true (sym c.if-eq.false ∙ c.eq.ensures
    ∙ (slice_eq-Decides Decides-eqb c.split_at.result.0.now c.args.word.now _ refl).1 (c.split_at.ensures.front
    ∙ ap (take (length c.args.word.now)) is ∙ take-append_seam c.args.word.now text))
