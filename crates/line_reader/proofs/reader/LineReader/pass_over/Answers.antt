use Rattle.std.proofs.Common.{◌++◌, ◌∙◌, sym, subst, arith, length-append}
use Rattle.std.proofs.KnownBytes.{Consumes-trans}
use Rattle.line_reader.specs.Lines.{HasNoLf}
use Rattle.line_reader.proofs.Passing.{alone, line_later, plain_on, plain_both}
use Rattle.line_reader.proofs.reader.LineReader.pass_over.Goals as goal

pub returns-then-pass_held-2-clause-passes : goal.returns-then-pass_held-2-clause-passes
returns-then-pass_held-2-clause-passes g c =
    let before = c.loop-block.invariant in
    let read = c.in_ok-read_block.ensures.read in
    let passed = c.if-pass_held-2.ensures.passes in
    let came = alone c.loop-block.self.held c.read_block.new.self.held read.0 before.none read.2 in (
      before.came ++ read.0,
      Consumes-trans _ _ _ before.came read.0 before.read read.3,
      (
        (c.args.self.now.held ++ before.came) ++ passed.0,
        plain_both (c.args.self.now.held ++ before.came) passed.0 before.plain passed.1,
        line_later c.args.self.now.held before.came read.0 passed.0 c.pass_held-in-loop-block.new.self.held
            (came ∙ passed.2),
      ),
    )

pub loop-block-preserved : goal.loop-block-preserved
loop-block-preserved g c =
    let before = c.loop-block.invariant in
    let read = c.in_ok-read_block.ensures.read in
    let passed = c.if-pass_held-2.ensures.passes in
    let came = alone c.loop-block.self.held c.read_block.new.self.held read.0 before.none read.2 in record {
      came = before.came ++ read.0;
      read = Consumes-trans _ _ _ before.came read.0 before.read read.3;
      plain = plain_on c.args.self.now.held before.came read.0 before.plain (subst HasNoLf (sym came) passed.0);
      none = passed.1;
      some = omega (arith, before.some, length-append before.came read.0, read.1, c.in_ok-read_block.ensures, c.if-branch-eq0.false);
      limit = c.pass_held-in-loop-block.ensures.limit ∙ c.in_ok-read_block.ensures.limit ∙ before.limit;
      counted = c.in_ok-read_block.ensures.counted ∙ before.counted;
    }
