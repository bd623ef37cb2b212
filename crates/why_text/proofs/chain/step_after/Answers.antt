use Rattle.std.proofs.Common.{◌≡◌, Contains, List, Some, ℕ, sym, ap, ◌∙◌, subst, arith}
use Rattle.std.specs.FinMap as finite
use Rattle.std.specs.Option.{option_copied}
use Rattle.change_core.specs.Change.{Change}
use Rattle.state_core.specs.Items.{IsCurrentItem}
use Rattle.state_core.specs.declared.item.Item.{Item}
use Rattle.ready_core.specs.declared.verdicts.Left.{Left}
use Rattle.ready_core.specs.declared.verdicts.Refusal.TheVariants.{Dependency}
use Rattle.why_text.proofs.Steps.{leads_at, current_there, next_item, next_is}
use Rattle.why_text.proofs.chain.step_after.Goals as goal

one_change : (a b : Change) → Some a ≡ Some b → a ≡ b
one_change a b e = cc

one_number : (a b : ℕ) → Some a ≡ Some b → a ≡ b
one_number a b e = cc

pub returns : goal.returns
returns c =
    let state = c.args.state.now in
    let verdicts = c.args.verdicts.now in
    let number = c.args.change in
    let result = c.left_at.result in
    let leads = leads_at state verdicts c.args.left number c.requires.leads c.requires.waits in
    let at = leads.2 in
    let stands : finite.get state number ≡ Some c.unwrap.result.now = sym c.change.ensures ∙ ap option_copied c.unwrap.ensures in
    let there : finite.get state number ≡ Some at.current.change = subst (λ n. finite.get state n ≡ Some at.current.change) at.of at.current.stands in
    let change = one_change c.unwrap.result.now at.current.change (sym stands ∙ there) in
    let set = one_number c.unwrap-current.result at.next.item.set (sym c.unwrap-current.ensures ∙ current_there state verdicts number leads.0 at c.unwrap.result.now c.current.result change c.current.ensures) in
    let item : at.next.item ≡ result.item = next_item state verdicts number leads.0 at c.unwrap-current.result set ∙ sym c.left_at.ensures.of in
    let out = subst (λ (l : List Left). Contains l result) c.out.ensures c.left_at.ensures.there in
    let same = next_is state verdicts number leads.0 at c.requires.in_order result out item in
    let rank = ap (λ (left : Left). left.rank) same in
    record {
      next = record {
        refusal = c.requires.waits ∙ ap Dependency (sym (ap (λ (i : Item). i.change) c.left_at.ensures.of));
        current = subst (IsCurrentItem state) item at.current;
        out = out;
      };
      rank = omega (arith, leads.1, at.rank, rank);
    }
