-- The step keeps the rule of the book.
use Rattle.std.proofs.Common.{sym, ◌∙◌, ap}
use Rattle.site_shared.proofs.Adding.{adds_moves}
use Rattle.site_shared.proofs.sight.Sight.with.Goals as goal

pub compare_exchange-found-requires : goal.compare_exchange-found-requires
compare_exchange-found-requires g c =
    let head = c.requires.head in
    let offer = c.plain-offer.ensures in
    let pen = c.no_pen-pen.ensures in
    let seen = c.again-seen.ensures in (
      ap (λ w. w.tracked) head,
      ap (λ s. s.book) seen ∙ sym (ap (λ w. w.book) head),
      pen.0 ∙ (ap (λ s. s.book) seen ∙ sym (ap (λ w. w.book) head)),
      offer.0,
      rw (ap (λ w. w.key) head, pen.1, offer.1, offer.3 ∙ c.requires.plain, seen) (adds_moves c.args.self.now.seen.log (g.M.Plain.ask c.args.about.now) c.args.self.now.count (sym c.args.self.now.counted)),
    )
