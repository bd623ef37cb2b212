use Rattle.std.proofs.Common.{◌∙◌, ap, arith}
use Rattle.std.proofs.lemmas.List.{take_all}
use Rattle.std.specs.Prelude.{IsTrue}
use Rattle.std.specs.Char.{is_ascii_digit}
use Rattle.std.proofs.lemmas.List.Elements.{All-from_get_or}
use Rattle.script_text.specs.Fields.{written_number}
use Rattle.script_text.proofs.FieldLemmas.{if_none_always, number_so_far}
use Rattle.script_text.proofs.fields.written_number.Goals as goal

pub returns-in_err-checked_mul-clause-none : goal.returns-in_err-checked_mul-clause-none
returns-in_err-checked_mul-clause-none c =
    if_none_always c.from_residual.result (λ _. omega (arith, number_so_far c.args.field.now c.loop-byte.byte-index c.loop-byte-test.true, c.loop-byte.invariant.value, c.in_err-checked_mul.ensures))

pub returns-in_err-number-clause-none : goal.returns-in_err-number-clause-none
returns-in_err-number-clause-none c =
    if_none_always c.from_residual-in_err-number.result (λ _. omega (arith, number_so_far c.args.field.now c.loop-byte.byte-index c.loop-byte-test.true, c.loop-byte.invariant.value, c.in_ok-checked_mul.ensures, c.from.ensures, c.in_err-number.ensures))

pub returns-clause-found : goal.returns-clause-found
returns-clause-found c =
    let field = c.args.field.now in
    let i = c.loop-byte.byte-index in (
      All-from_get_or (λ byte. IsTrue (is_ascii_digit byte)) field 0
          (λ k h. c.loop-byte.invariant.digits k (omega arith)),
      c.loop-byte.invariant.value ∙ ap written_number (take_all i field (omega arith)),
    )
