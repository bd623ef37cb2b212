-- What is entered at goes on from the longer of the two sights, and so from both.
use Rattle.std.proofs.Common.{◌≡◌, List, ◌∙◌, ap, inl, inr, subst}
use mathlib.Core.List.{IsPrefix}
use Rattle.review_ops.specs.Operation.{Operation}
use Rattle.site_shared.specs.Accounts.{Outlook}
use Rattle.site_shared.specs.declared.sight.Sight.{Sight}
use Rattle.site_shared.proofs.Prefixes.{prefix_trans}
use Rattle.site_shared.proofs.window.Window.enter_from.Goals as goal

pub returns-clause-later : goal.returns-clause-later
returns-clause-later c =
    let old = c.args.self.now in
    let longer = c.longer.result.seen in
    let later = c.enter.ensures.later in
    let mine : c.again-before.result.seen.log ≡ old.seen = ap (λ (s : Sight). s.seen.log) c.again-before.ensures ∙ ap (λ (w : Outlook). w.seen) c.self.view_is in
    let book : longer.book ≡ old.book = elim c.longer.ensures.one as (λ _. longer.book ≡ old.book) [
      | inl e ↦ ap (λ (s : Sight). s.seen.book) (e ∙ c.again-before.ensures)
          ∙ ap (λ (w : Outlook). w.book) c.self.view_is
      | inr e ↦ ap (λ (s : Sight). s.seen.book) e ∙ c.requires
    ] in
    let this : IsPrefix old.seen longer.log = subst (λ (l : List (List Operation)). IsPrefix l longer.log) mine c.longer.ensures.this in
    record {
      book = later.book ∙ book;
      site = later.site ∙ ap (λ (w : Outlook). w.site) c.self.view_is;
      start = later.start ∙ ap (λ (w : Outlook). w.start) c.self.view_is;
      seen = prefix_trans old.seen longer.log c.enter.new.self.seen this later.seen;
    }

pub returns-clause-no_less : goal.returns-clause-no_less
returns-clause-no_less c = prefix_trans c.args.sight.now.seen.log c.longer.result.seen.log c.enter.new.self.seen c.longer.ensures.that c.enter.ensures.later.seen
