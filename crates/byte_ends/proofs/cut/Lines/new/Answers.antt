use Rattle.byte_ends.proofs.CutLemmas.{length-lines_of}
use Rattle.byte_ends.proofs.cut.Lines.new.Goals as goal

pub returns-clause-few : goal.returns-clause-few
returns-clause-few c = length-lines_of c.args.text.now
