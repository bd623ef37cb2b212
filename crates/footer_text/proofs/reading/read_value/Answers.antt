use Rattle.std.proofs.Common.{Some}
use Rattle.footer_text.proofs.Texts.{strip_prefix_text}
use Rattle.footer_text.proofs.Values.{no_form, form_and_number}
use Rattle.footer_text.proofs.reading.read_value.Goals as goal

pub returns-in_err-after_form : goal.returns-in_err-after_form
returns-in_err-after_form c =
    let begins = strip_prefix_text c.args.base.now c.args.value.now (Some c.in_ok-strip_prefix.field-0) c.in_ok-strip_prefix.ensures.cases in
    rw c.from_residual-in_err-after_form.ensures
    (no_form _ _ _ begins (record { form = tt; only = c.in_err-after_form.ensures.only }))

pub returns : goal.returns
returns c =
    let begins = strip_prefix_text c.args.base.now c.args.value.now (Some c.in_ok-strip_prefix.field-0) c.in_ok-strip_prefix.ensures.cases in
    form_and_number _ _ _ begins c.in_ok-after_form.field-0 _ (record { form = c.in_ok-after_form.ensures.form; only = c.in_ok-after_form.ensures.only }) c.read_number.ensures
