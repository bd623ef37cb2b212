use Rattle.std.proofs.Common.{◌∙◌, sym, arith}
use Rattle.script_text.proofs.FieldLemmas.{after_word_found, not_the_word, not_a_blank}
use Rattle.script_text.proofs.fields.after_word.Goals as goal
use Rattle.script_text.proofs.fields.after_word.Goals.{else-eq-via-then-eq+else-rest-eq32, else-eq-via-else-eq}

pub returns-then-rest-eq32-clause-found : goal.returns-then-rest-eq32-clause-found
returns-then-rest-eq32-clause-found c =
    after_word_found c.args.line.now c.args.word.now c.split_at.result.0.now c.split_at.result.1.now c.split_at.ensures.front c.split_at.ensures.back (omega arith) (sym c.eq.ensures ∙ c.if-eq.true) c.if-rest-eq32.true

pub returns-else-eq-clause-none : goal.returns-else-eq-clause-none
returns-else-eq-clause-none c rest is =
    elim c.else-eq.branch [
      | else-eq-via-then-eq+else-rest-eq32 w ↦ not_a_blank c.args.line.now c.args.word.now c.split_at.result.1.now c.split_at.ensures.back w.if-rest-eq32.false rest is
      | else-eq-via-else-eq w ↦ not_the_word c.args.line.now c.args.word.now c.split_at.result.0.now c.split_at.ensures.front (sym c.eq.ensures ∙ w.if-eq.false) rest is
    ]
