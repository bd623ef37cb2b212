use Rattle.std.proofs.Common.{ap, ◌∙◌}
use Rattle.std.proofs.lemmas.List.Elements.{Contains-get_or}
use Rattle.std.proofs.lemmas.Option.{slice_get_within, get_or_from_slice_get}
use Rattle.ready_core.specs.declared.verdicts.Left.{Left}
use Rattle.why_text.proofs.Lookups.{found_at, some_found}
use Rattle.why_text.proofs.chain.left_at.Goals as goal

pub unwrap-requires : goal.unwrap-requires
unwrap-requires c = some_found c.args.out.now c.args.item c.place_out.result c.requires.there c.place_out.ensures

pub bounds-out-unwrap : goal.bounds-out-unwrap
bounds-out-unwrap c =
    let at = found_at c.args.out.now c.args.item c.place_out.result c.unwrap.result c.unwrap.ensures c.place_out.ensures in
    slice_get_within c.args.out.now c.unwrap.result at.left at.here

pub returns-clause-there : goal.returns-clause-there
returns-clause-there c =
    let at = found_at c.args.out.now c.args.item c.place_out.result c.unwrap.result c.unwrap.ensures c.place_out.ensures in
    Contains-get_or c.args.out.now c.unwrap.result _ (slice_get_within c.args.out.now c.unwrap.result at.left at.here)

pub returns-clause-of : goal.returns-clause-of
returns-clause-of c =
    let at = found_at c.args.out.now c.args.item c.place_out.result c.unwrap.result c.unwrap.ensures c.place_out.ensures in
    ap (λ (left : Left). left.item) (get_or_from_slice_get c.args.out.now c.unwrap.result at.left _ at.here) ∙ at.of
