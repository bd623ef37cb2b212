use Rattle.std.proofs.Common.{◌≡◌, ◌∙◌, ap, subst, Contains}
use Rattle.std.specs.List.Sorted.{IsStrictlySortedBy}
use Rattle.state_core.specs.Items.{item_cmp}
use Rattle.ready_core.specs.Verdicts.{Judged, items_out}
use Rattle.report_changes.specs.Listing.{IsLeftOutFor}
use Rattle.report_changes.proofs.Members.{for_by, none_for}
use Rattle.report_changes.proofs.listed.Listed.is_out_for.Goals as goal

pub returns-in-Some : goal.returns-in-Some
returns-in-Some c =
    let kept : c.self.inside.out.items ≡ c.args.self.now.out = ap (λ (seen : Judged). seen.out) c.self.view_is in
    let shown : c.as_slice.result.now ≡ c.args.self.now.out = c.as_slice.ensures.value ∙ kept in
    c.is_same.ensures
    ∙ for_by c.args.self.now
    (subst (λ out. IsStrictlySortedBy item_cmp (items_out out)) kept c.self.invariant.out_is) c.args.left c.in-Some.refusal
    (subst (λ out. IsLeftOutFor out c.args.left.item c.in-Some.refusal) shown c.in-Some.ensures)

pub returns-in-None : goal.returns-in-None
returns-in-None c =
    let kept : c.self.inside.out.items ≡ c.args.self.now.out = ap (λ (seen : Judged). seen.out) c.self.view_is in
    let shown : c.as_slice.result.now ≡ c.args.self.now.out = c.as_slice.ensures.value ∙ kept in
    none_for c.args.self.now c.args.left (subst (λ out. ¬ Contains (items_out out) c.args.left.item) shown c.in-None.ensures)
