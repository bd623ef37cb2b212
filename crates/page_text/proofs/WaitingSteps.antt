-- The title of a page, step by step.
use Rattle.std.proofs.Common.{◌≡◌, ◌∙◌, ℕ, List, [], ◌++◌, ap, append_assoc, subst, sym}
use Rattle.std.specs.Prelude.{IfSome, Option, None, Some, codes}
use Rattle.markup_text.specs.Adding.{none_is_some}
use Rattle.markup_text.specs.Growing.{Adds, AddsAll}
use Rattle.page_text.specs.Titles.{IsEnded, IsTitled, LacksTitles}

-- ---- titles
-- what a page without a title begins with
pub untitled : (html : List ℕ) (first second : Option (List ℕ)) → first ≡ Some [] → LacksTitles html
    → Adds html first second → IfSome second LacksTitles
untitled html first None begun lacks adds = tt
untitled html None (Some new) begun lacks adds = absurd adds
untitled html (Some old) (Some new) begun lacks adds =
    let empty : old ≡ [] = cc in
    subst LacksTitles (sym (adds ∙ ap (λ l. l ++ html) empty)) lacks

pub titled : (title rest : List ℕ) (first second third : Option (List ℕ)) → IfSome first LacksTitles
    → Adds (codes "<title>" ++ title ++ codes "</title>") first second → Adds rest second third
    → IfSome third (IsTitled title)
titled title rest first second None lacks p q = tt
titled title rest first None (Some html) lacks p q = absurd q
titled title rest None (Some begun) (Some html) lacks p q = absurd p
titled title rest (Some before) (Some begun) (Some html) lacks p q = record {
  before = before;
  after = rest;
  none_before = lacks;
  is = q ∙ ap (λ l. l ++ rest) p ∙ append_assoc before (codes "<title>" ++ title ++ codes "</title>") rest;
}

titled_on : (title page more longer : List ℕ) → IsTitled title page → longer ≡ page ++ more → IsTitled title longer
titled_on title page more longer is_titled is = record {
  before = is_titled.before;
  after = is_titled.after ++ more;
  none_before = is_titled.none_before;
  is = is ∙ ap (λ l. l ++ more) is_titled.is
      ∙ append_assoc is_titled.before ((codes "<title>" ++ title ++ codes "</title>") ++ is_titled.after) more
      ∙ ap (λ l. is_titled.before ++ l) (append_assoc (codes "<title>" ++ title ++ codes "</title>") is_titled.after more);
}

-- a page that has its title has it to the end
pub titled_whole : (title : List ℕ) (main page longer : Option (List ℕ)) (text : List ℕ)
    → IfSome page (IsTitled title) → AddsAll main page longer → IsEnded longer text → IsTitled title text
titled_whole title main page None text has added ended = absurd ended
titled_whole title None page (Some own) text has added ended = absurd (none_is_some added)
titled_whole title (Some html) None (Some own) text has added ended = absurd added
titled_whole title (Some html) (Some begun) (Some own) text has added ended =
    titled_on title own (codes "</main>\n</body>\n</html>\n") text (titled_on title begun html own has added) ended
