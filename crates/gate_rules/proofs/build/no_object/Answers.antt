use Rattle.gate_rules.proofs.build.no_object.Goals as goal

pub returns-clause-refusal : goal.returns-clause-refusal
returns-clause-refusal c = record {
  none = c.requires.none;
  stop = record {
    offset = c.blanks.result;
    within = c.blanks.ensures.within;
    is_at = c.place_at.ensures;
    no_text = λ bad. absurd (bad c.requires.utf8);
    other = λ value text read. c.blanks.ensures.value;
  };
}
