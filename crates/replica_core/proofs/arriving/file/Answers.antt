use Rattle.std.proofs.Common.{◌≡◌, ◌∙◌, ◌++◌, ◌∷◌, [], true, false, cond, ap, sym, refl, subst}
use Rattle.replica_core.specs.Front.{holds, IsGapless}
use Rattle.replica_core.specs.Journal.{taken_of, has}
use Rattle.chunk_list.specs.Ranks.{rank}
use Rattle.replica_core.specs.Lines.{ops_of, row_of, IsFiled}
use Rattle.replica_core.specs.Searches.{is_below, with_place}
use Rattle.replica_core.proofs.Absorbing.{on_err_always}
use Rattle.replica_core.proofs.Filing.{has_row, filed_new, held_new}
use Rattle.replica_core.proofs.arriving.file.Goals as goal

pub has-requires : goal.has-requires
has-requires g c = c.requires.line.filed

pub returns-then-has-clause-ok : goal.returns-then-has-clause-ok
returns-then-has-clause-ok g c =
    let journal = c.args.arrivals.now.items in
    let line = c.args.line.now in
    let op = c.args.op in
    let known : has journal op ≡ true = sym (c.has.ensures ∙ has_row journal line c.requires.line.filed op c.requires.row) ∙ c.if-has.true in (
      ap taken_of (sym known),
      ap (λ t. cond t journal (journal ++ op ∷ [])) (sym known),
      c.requires.line,
      refl,
      ap (λ t. cond t c.args.follower.now (g.F.Follows.after c.args.follower.now op)) (sym known),
    )

pub enter-requires : goal.enter-requires
enter-requires g c = subst (λ j. IsFiled j c.args.line.now) (sym c.reserve.ensures.items) c.requires.line.filed

pub returns-in_err-enter-clause-err : goal.returns-in_err-enter-clause-err
returns-in_err-enter-clause-err g c = on_err_always c.from_residual-in_err-enter.result
    (c.reserve.ensures.items, c.in_err-enter.ensures.err.0, c.in_err-enter.ensures.err.1)

pub climbed-line-inside-requires-clause-filed : goal.climbed-line-inside-requires-clause-filed
climbed-line-inside-requires-clause-filed g c =
    let journal = c.args.arrivals.now.items in
    let line = c.args.line.now in
    let op = c.args.op in
    let is = c.in_ok-enter.ensures.ok.0 ∙ ap (λ j. with_place j line op) (c.reserve.ensures.items) in
    filed_new journal line c.requires.line.filed op c.requires.row (rank (is_below op) (ops_of journal line)) refl
    (sym (c.has.ensures) ∙ c.if-has.false)
    c.push_reserved.new.self.items c.enter.new.line
    (c.push_reserved.ensures ∙ ap (λ j. j ++ op ∷ []) c.reserve.ensures.items)
    (ap (λ l. l.site) is) (ap (λ l. l.start) is) (ap (λ l. l.places) is)

pub climbed-line-inside-requires-clause-gapless : goal.climbed-line-inside-requires-clause-gapless
climbed-line-inside-requires-clause-gapless g c =
    let line = c.args.line.now in
    let op = c.args.op in
    let is = c.in_ok-enter.ensures.ok.0 ∙ ap (λ j. with_place j line op) (c.reserve.ensures.items) in
    held_new c.args.arrivals.now.items c.push_reserved.new.self.items line c.enter.new.line op
    (c.push_reserved.ensures ∙ ap (λ j. j ++ op ∷ []) c.reserve.ensures.items)
    (ap (λ l. l.site) is) (ap (λ l. l.start) is) (ap (λ l. l.reach) is) c.requires.line.reach.gapless

pub returns-clause-ok : goal.returns-clause-ok
returns-clause-ok g c =
    let journal = c.args.arrivals.now.items in
    let line = c.args.line.now in
    let inside = c.line.inside in
    let op = c.args.op in
    let is = c.line.view_is ∙ c.in_ok-enter.ensures.ok.0 ∙ ap (λ j. with_place j line op) (c.reserve.ensures.items) in
    let absent : has (ops_of journal line) op ≡ false = sym (c.has.ensures) ∙ c.if-has.false in
    let new : has journal op ≡ false = sym (has_row journal line c.requires.line.filed op c.requires.row) ∙ absent in
    let after : c.push_reserved.new.self.items ≡ journal ++ op ∷ [] = c.push_reserved.ensures ∙ ap (λ j. j ++ op ∷ []) c.reserve.ensures.items in (
      ap taken_of (sym new),
      after ∙ ap (λ t. cond t journal (journal ++ op ∷ [])) (sym new),
      record {
        filed = filed_new journal line c.requires.line.filed op c.requires.row
            (rank (is_below op) (ops_of journal line)) refl absent
            c.push_reserved.new.self.items (record { site = inside.row.site; start = inside.row.start; places = inside.places; reach = c.climbed-line-inside.result })
            after (ap (λ l. l.site) is) (ap (λ l. l.start) is) (ap (λ l. l.places) is);
        reach = (subst (λ l. IsGapless (holds c.push_reserved.new.self.items l.site l.start) c.climbed-line-inside.result) (sym c.line.view_is) c.climbed-line-inside.ensures);
      },
      ap row_of is,
      c.in_ok-enter.ensures.ok.1 ∙ ap (λ t. cond t c.args.follower.now (g.F.Follows.after c.args.follower.now op)) (sym new),
    )
