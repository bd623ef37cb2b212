use Rattle.std.proofs.Common.{subst, arith}
use Rattle.std.proofs.lemmas.List.{take_all}
use Rattle.std.specs.List.{AllZip}
use Rattle.lattice_core.specs.ZipLaws.{AllZip-more}
use Rattle.command_line.specs.Values.{Writes}
use Rattle.command_line.proofs.Reading.{none_unwritten, zip_over}
use Rattle.command_line.proofs.numbers.shorts_of.Goals as goal

pub returns-in_default : goal.returns-in_default
returns-in_default c =
    none_unwritten c.args.number.least c.args.number.most c.args.texts.now c.loop-text.text-index _ c.loop-text-test.true c.in_default.ensures.found

pub loop-text-preserved : goal.loop-text-preserved
loop-text-preserved c =
    rw c.in_ok-push.ensures.items
    (AllZip-more (λ text short. Writes c.args.number.least c.args.number.most text.now short) c.args.texts.now c.loop-text.shorts.items c.loop-text.text-index _ c.in-Some.short c.loop-text-test.true c.loop-text.invariant c.in-Some.ensures.found)

pub returns : goal.returns
returns c =
    let texts = c.args.texts.now in
    let IsWritten = Writes c.args.number.least c.args.number.most in
    zip_over (λ text. text.now) IsWritten texts c.loop-text.shorts.items
    (subst (λ l. AllZip (λ text short. IsWritten text.now short) l c.loop-text.shorts.items) (take_all c.loop-text.text-index texts (omega (arith, c.loop-text-test.false))) c.loop-text.invariant)
