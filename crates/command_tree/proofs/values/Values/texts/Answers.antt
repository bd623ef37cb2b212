use Rattle.clap.specs.Words.{found_of}
use Rattle.command_tree.proofs.Getting.{texts_shown}
use Rattle.command_tree.proofs.values.Values.texts.Goals as goal

pub returns : goal.returns
returns c = texts_shown (found_of c.args.self.now.found) c.args.argument.now c.get_strs.result c.get_strs.ensures
