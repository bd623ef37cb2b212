use Rattle.std.proofs.Common.{◌≡◌, ◌≢◌, [], None, Some, sym, ◌∙◌, lit<, rules}
use Rattle.std.proofs.lemmas.Str.Pattern.{strip_suffix_char, strip_prefix_char}
use Rattle.footer_text.specs.Cuts.{same_front}
use Rattle.footer_text.proofs.Projects.{project_has_plus, project_parts, project_found, number_found}
use Rattle.footer_text.proofs.Texts.{rsplit_parts}
use Rattle.footer_text.proofs.reading.after_project.Goals as goal

pub returns-in_err-before-clause-only : goal.returns-in_err-before-clause-only
returns-in_err-before-clause-only c project number some lacks e =
    absurd (project_has_plus _ project number e (rsplit_parts 43 c.args.text.now None c.in_err-before.ensures.cases (lit< tt)))

pub returns-in_err-project-clause-only : goal.returns-in_err-project-clause-only
returns-in_err-project-clause-only c project number some lacks e =
    let cut = rsplit_parts 43 c.args.text.now (Some (c.in_ok-before.before, c.in_ok-before.after)) c.in_ok-before.ensures.cases (lit< tt) in
    let parts = project_parts _ _ _ cut.0 cut.1 project number lacks e in
    absurd (strip_suffix_char 47 c.in_ok-before.before.now None c.in_err-project.ensures.cases (lit< tt) project parts.0)

pub returns-then-is_empty-clause-only : goal.returns-then-is_empty-clause-only
returns-then-is_empty-clause-only c project number some lacks e =
    let empty : c.in_ok-project.project.now ≡ [] = search rules in
    let cut = rsplit_parts 43 c.args.text.now (Some (c.in_ok-before.before, c.in_ok-before.after)) c.in_ok-before.ensures.cases (lit< tt) in
    let parts = project_parts _ _ _ cut.0 cut.1 project number lacks e in
    let slash = strip_suffix_char 47 c.in_ok-before.before.now (Some c.in_ok-project.project) c.in_ok-project.ensures.cases (lit< tt) in
    some (sym (same_front 47 _ project (sym slash ∙ parts.0)) ∙ empty)

pub returns-clause-project : goal.returns-clause-project
returns-clause-project c =
    let cut = rsplit_parts 43 c.args.text.now (Some (c.in_ok-before.before, c.in_ok-before.after)) c.in_ok-before.ensures.cases (lit< tt) in
    let slash = strip_suffix_char 47 c.in_ok-before.before.now (Some c.in_ok-project.project) c.in_ok-project.ensures.cases (lit< tt) in
    let some : c.in_ok-project.project.now ≢ [] = search rules in
    project_found _ _ _ cut.0 c.in_ok-project.project.now _ some slash
    (strip_prefix_char 47 c.in_ok-before.after.now _ c.strip_prefix.ensures.cases (lit< tt))

pub returns-clause-only : goal.returns-clause-only
returns-clause-only c project number some lacks e =
    let cut = rsplit_parts 43 c.args.text.now (Some (c.in_ok-before.before, c.in_ok-before.after)) c.in_ok-before.ensures.cases (lit< tt) in
    let parts = project_parts _ _ _ cut.0 cut.1 project number lacks e in
    number_found _ number _ parts.1
    (strip_prefix_char 47 c.in_ok-before.after.now _ c.strip_prefix.ensures.cases (lit< tt))
