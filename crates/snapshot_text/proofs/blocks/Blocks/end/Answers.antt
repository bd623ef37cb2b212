use Rattle.std.proofs.Common.{List, ℕ, ◌++◌, [], subst, append-nil}
use Rattle.std.proofs.lemmas.Option.{MatchOption-at_some}
use Rattle.byte_ends.specs.Lines.{lines_of}
use Rattle.snapshot_text.specs.Progress.{HasCut, IsFaultIn}
use Rattle.snapshot_text.proofs.blocks.Blocks.end.Goals as goal

pub returns-in-Some-clause-err : goal.returns-in-Some-clause-err
returns-in-Some-clause-err c = λ base came read.
    let found = MatchOption-at_some (HasCut base came c.args.self.cutter)
    (λ fault. (later : List ℕ) → IsFaultIn (lines_of (came ++ later)) fault) c.in-Some.fault c.in-Some.is read in
    subst (λ l. IsFaultIn (lines_of l) c.in-Some.fault) (append-nil came) (found [])
