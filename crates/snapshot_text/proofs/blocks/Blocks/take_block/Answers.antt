use Rattle.std.proofs.Common.{◌∙◌, ◌++◌, List, ℕ, sym, subst}
use Rattle.std.specs.Prelude.{MatchOption}
use Rattle.std.proofs.lemmas.Result.{on_ok_weaker, IfErr-weaker}
use Rattle.byte_ends.specs.Lines.{lines_of}
use Rattle.snapshot_text.specs.Progress.{HasCut, IsFaultIn}
use Rattle.snapshot_text.proofs.Cutting.{still_faulty, cut_or_faulty}
use Rattle.snapshot_text.proofs.blocks.Blocks.take_block.Goals as goal

pub returns-then-is_some-clause-read : goal.returns-then-is_some-clause-read
returns-then-is_some-clause-read g c = λ base came read.
    let old = c.args.self.now in
    still_faulty old.fault (HasCut base came old.cutter) (HasCut base (came ++ c.args.block.now) old.cutter) came c.args.block.now
    (sym c.is_some.ensures ∙ c.if-is_some.true) read

pub returns-clause-read : goal.returns-clause-read
returns-clause-read g c = λ base came read.
    let old = c.args.self.now in
    let bytes = came ++ c.args.block.now in
    subst (λ f. MatchOption f (HasCut base bytes c.take_block.new.self) (λ fault. (later : List ℕ) → IsFaultIn (lines_of (bytes ++ later)) fault)) (sym c.err.ensures.value)
    (cut_or_faulty old.fault c.take_block.result (HasCut base came old.cutter) (HasCut base bytes c.take_block.new.self) came bytes
    (sym c.is_some.ensures ∙ c.if-is_some.false) read
    (on_ok_weaker c.take_block.result (λ step. step base came) c.take_block.ensures.ok)
    (IfErr-weaker c.take_block.result _ _ (λ fault fails. fails base came) c.take_block.ensures.err))
