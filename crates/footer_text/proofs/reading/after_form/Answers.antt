use Rattle.std.proofs.Common.{Some, inl, inr, refl, codes}
use Rattle.footer_text.proofs.Forms.{form_with_project, project_form}
use Rattle.footer_text.proofs.Texts.{strip_prefix_text}
use Rattle.footer_text.proofs.reading.after_form.Goals as goal

pub returns-in-Some-clause-form : goal.returns-in-Some-clause-form
returns-in-Some-clause-form c =
    (codes "#/c/", inr (inl refl), strip_prefix_text (codes "#/c/") c.args.text.now (Some c.in-Some.number) c.in-Some.ensures.cases)

pub returns-in-Some-strip_prefix-clause-form : goal.returns-in-Some-strip_prefix-clause-form
returns-in-Some-strip_prefix-clause-form c =
    let begins = strip_prefix_text (codes "c/") c.args.text.now (Some c.in-Some-strip_prefix.project) c.in-Some-strip_prefix.ensures.cases in
    form_with_project _ _ begins _ c.after_project.ensures.project

pub returns-in-Some-strip_prefix-clause-only : goal.returns-in-Some-strip_prefix-clause-only
returns-in-Some-strip_prefix-clause-only c =
    let begins = strip_prefix_text (codes "c/") c.args.text.now (Some c.in-Some-strip_prefix.project) c.in-Some-strip_prefix.ensures.cases in
    project_form _ _ begins _ c.after_project.ensures.only
