use Rattle.std.proofs.Common.{◌<◌, ◌/◌, length, ◌∙◌, arith}
use Rattle.std.proofs.lemmas.List.{length-set}
use Rattle.walk_core.proofs.MarkLemmas.{PutsMark-set, bit_in_range}
use Rattle.walk_core.proofs.block.Marks.put.Goals as goal

pub invariant_of-self : goal.invariant_of-self
invariant_of-self c =
    let words = c.args.self.now.words in
    let within : c.args.target / 64 < length words = omega (arith, c.args.self.now.size) in
    record {
      size = length-set words (c.args.target / 64) _ ∙ c.args.self.now.size;
      in_range = bit_in_range words c.args.target within c.args.self.now.in_range;
    }

pub returns : goal.returns
returns c = PutsMark-set c.args.self.now.words c.args.target (omega (arith, c.args.self.now.size))
