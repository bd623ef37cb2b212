use Rattle.std.proofs.Common.{subst, arith}
use Rattle.std.proofs.lemmas.List.{take_all}
use Rattle.std.specs.List.{AllZip}
use Rattle.lattice_core.specs.ZipLaws.{AllZip-more}
use Rattle.command_line.specs.Values.{NamesRow}
use Rattle.command_line.proofs.Reading.{none_said, zip_over}
use Rattle.command_line.proofs.numbers.rows_of.Goals as goal

pub returns-in_default : goal.returns-in_default
returns-in_default c =
    none_said NamesRow c.args.texts.now c.loop-text.text-index _ c.loop-text-test.true c.in_default.ensures

pub loop-text-preserved : goal.loop-text-preserved
loop-text-preserved c =
    rw c.in_ok-push.ensures.items
    (AllZip-more (λ text row. NamesRow text.now row) c.args.texts.now c.loop-text.rows.items c.loop-text.text-index _ c.in-Some.row c.loop-text-test.true c.loop-text.invariant c.in-Some.ensures)

pub returns : goal.returns
returns c =
    let texts = c.args.texts.now in
    zip_over (λ text. text.now) NamesRow texts c.loop-text.rows.items
    (subst (λ l. AllZip (λ text row. NamesRow text.now row) l c.loop-text.rows.items) (take_all c.loop-text.text-index texts (omega (arith, c.loop-text-test.false))) c.loop-text.invariant)
