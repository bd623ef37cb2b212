use Rattle.clap.specs.Words.{found_of}
use Rattle.command_tree.proofs.Getting.{text_shown}
use Rattle.command_tree.proofs.values.Values.text.Goals as goal

pub returns : goal.returns
returns c = text_shown (found_of c.args.self.now.found) c.args.argument.now c.get_str.result c.get_str.ensures
