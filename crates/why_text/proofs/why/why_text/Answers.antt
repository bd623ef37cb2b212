use Rattle.std.proofs.Common.{List, Contains, sym, subst}
use Rattle.state_core.specs.declared.item.Item.{Item}
use Rattle.why_text.specs.Among.{not_among}
use Rattle.why_text.proofs.why.why_text.Goals as goal

pub left_text-requires-clause-there : goal.left_text-requires-clause-there
left_text-requires-clause-there c =
    let item = c.args.item in
    (c.requires.judged.out item).1 (
      c.requires.there,
      λ ready. not_among c.ready.result.now item c.if-contains.ensures.cases
          (subst (λ (l : List Item). Contains l item) (sym c.ready.ensures) ((c.requires.judged.ready item).1 ready)),
    )
