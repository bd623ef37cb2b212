use Rattle.std.proofs.Common.{◌≡◌, ◌∙◌, ◌++◌, ap, length, map}
use Rattle.std.specs.Char.{to_ascii_lowercase}
use Rattle.std.proofs.lemmas.List.{take_at}
use Rattle.page_text.specs.Search.{contains}
use Rattle.page_text.proofs.SearchSteps.{found}
use Rattle.page_text.proofs.search.Search.finds.Goals as goal

pub returns-clause-found : goal.returns-clause-found
returns-clause-found c =
    let copied : c.as_mut_slice.result.now ≡ c.args.text.now
    = c.as_mut_slice.ensures.value ∙ c.in_ok-extend_from_slice.ensures.items
    ∙ ap (λ l. l ++ c.args.text.now) c.clear.ensures.items in
    let long : length c.make_ascii_lowercase.new.self ≡ c.extend_from_slice.new.self.len
    = c.make_ascii_lowercase.auto.self ∙ c.as_mut_slice.ensures.len in
    let low : c.as_slice.result.now ≡ map to_ascii_lowercase c.args.text.now
    = c.as_slice.ensures.value ∙ take_at _ _ _ long ∙ c.make_ascii_lowercase.ensures.after
    ∙ ap (map to_ascii_lowercase) copied in
    c.is_some.ensures ∙ found c.self.inside.finder c.as_slice.result.now c.find.result c.find.ensures
    ∙ ap (λ words. contains words c.as_slice.result.now) c.self.view_is ∙ ap (contains c.args.self.now) low
