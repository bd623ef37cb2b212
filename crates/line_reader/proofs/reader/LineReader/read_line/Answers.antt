use Rattle.std.proofs.Common.{◌++◌, ◌∙◌, append_assoc, ap, subst}
use Rattle.std.proofs.KnownBytes.{Consumes-trans}
use Rattle.line_reader.proofs.Cutting.{first_lf_later, past_is_rest, still_plain, hands_later}
use Rattle.line_reader.specs.Lines.{HasNoLf, HasFirstLf}
use Rattle.line_reader.proofs.reader.LineReader.read_line.Goals as goal

pub hand_out-requires : goal.hand_out-requires
hand_out-requires g c =
    let came = c.in_ok-read_block.ensures.read in
    rw c.held-scanned.ensures (first_lf_later c.loop-self.self.held came.0 c.read_block.new.self.held c.in-Some.at c.loop-self.invariant.1 came.2
    (subst (λ l. HasFirstLf l c.in-Some.at) (past_is_rest c.loop-self.self.held c.read_block.new.self.held c.held-scanned.result.now c.held-in-loop-self.result.now c.held-scanned.ensures c.held-in-loop-self.ensures) c.in-Some.ensures))

pub returns-in-Some-clause-hands : goal.returns-in-Some-clause-hands
returns-in-Some-clause-hands g c =
    let came = c.in_ok-read_block.ensures.read in
    let before = c.loop-self.invariant.0 in (
      before.0 ++ came.0,
      Consumes-trans _ _ _ before.0 came.0 before.1 came.3,
      hands_later c.args.self.now c.read_block.new.self c.hand_out.new.self (before.0 ++ came.0) c.hand_out.result
          (came.2 ∙ ap (λ l. l ++ came.0) before.2 ∙ append_assoc c.args.self.now.held before.0 came.0)
          (c.in_ok-read_block.ensures.limit ∙ c.loop-self.invariant.2) c.hand_out.ensures.hands,
    )

pub loop-self-preserved : goal.loop-self-preserved
loop-self-preserved g c =
    let came = c.in_ok-read_block.ensures.read in
    let before = c.loop-self.invariant.0 in (
      (before.0 ++ came.0, Consumes-trans _ _ _ before.0 came.0 before.1 came.3, came.2 ∙ ap (λ l. l ++ came.0) before.2 ∙ append_assoc c.args.self.now.held before.0 came.0),
      still_plain c.loop-self.self.held came.0 c.read_block.new.self.held c.loop-self.invariant.1 came.2
          (subst HasNoLf (past_is_rest c.loop-self.self.held c.read_block.new.self.held c.held-scanned.result.now c.held-in-loop-self.result.now c.held-scanned.ensures c.held-in-loop-self.ensures) c.in_default.ensures),
      c.in_ok-read_block.ensures.limit ∙ c.loop-self.invariant.2,
      c.in_ok-read_block.ensures.counted ∙ c.loop-self.invariant.3,
    )
