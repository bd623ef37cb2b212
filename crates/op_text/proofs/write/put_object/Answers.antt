use Rattle.std.proofs.Common.{◌∷◌, ◌++◌, [], get_or, decimal, take, take_all, sym, ap, ◌∙◌}
use Rattle.std.proofs.lemmas.Result.{on_ok_weaker}
use Rattle.std.specs.Prelude.{codes}
use Rattle.review_ops.specs.Deed.{change_of}
use Rattle.review_ops.specs.Draft.{deed_of}
use Rattle.op_text.specs.declared.field.Field.TheVariants.{Change}
use Rattle.op_text.specs.Canonical.{later_fields, member_text, members_texts}
use Rattle.op_text.specs.Field.{key_of}
use Rattle.op_text.specs.Text.{data_of}
use Rattle.op_text.proofs.Written.{Extends-trans, grown, members_texts-more, written_text-members}
use Rattle.op_text.proofs.write.put_object.Goals as goal

pub loop-field-preserved : goal.loop-field-preserved
loop-field-preserved c =
    let old = c.args.page.now.items in
    let page = c.loop-field.page.items in
    let next = c.put_field.new.page.items in
    let deed = deed_of c.args.draft.now in
    let values = data_of c.args.stamp.now deed in
    let index = c.loop-field.field-index in
    let front = codes "{\"change\":" in
    let digits = decimal (change_of deed) in
    let so_far = members_texts (take index later_fields) values in
    let field = get_or later_fields index Change in
    let more = member_text (key_of field) (values field) in
    let all = members_texts-more values later_fields index Change c.loop-field-test.true in
    record {
      written = grown old page next front digits so_far more c.loop-field.invariant.written c.in_ok-put_field.ensures.ok
          ∙ ap (λ l. old ++ (front ++ (digits ++ l))) (sym all);
      kept = Extends-trans old page next c.loop-field.invariant.kept c.put_field.ensures.kept;
    }

pub returns-clause-ok : goal.returns-clause-ok
returns-clause-ok c =
    let old = c.args.page.now.items in
    let page = c.loop-field.page.items in
    let next = c.put-2.new.page.items in
    let deed = deed_of c.args.draft.now in
    let values = data_of c.args.stamp.now deed in
    let front = codes "{\"change\":" in
    let digits = decimal (change_of deed) in
    let so_far = members_texts (take c.loop-field.field-index later_fields) values in
    let all = take_all c.loop-field.field-index later_fields c.loop-field-test.false in
    on_ok_weaker c.put-2.result
    (λ e. grown old page next front digits so_far (125 ∷ []) c.loop-field.invariant.written e ∙ ap (λ fs. old ++ (front ++ (digits ++ (members_texts fs values ++ 125 ∷ [])))) all ∙ ap (λ l. old ++ l) (sym (written_text-members c.args.stamp.now deed)))
    c.put-2.ensures.ok
