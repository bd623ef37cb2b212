use Rattle.enqueue_lines.proofs.Words.{quoted_read}
use Rattle.enqueue_lines.proofs.quoting.quoted_words_are_read_again.Goals as goal

pub returns : goal.returns
returns c = quoted_read
