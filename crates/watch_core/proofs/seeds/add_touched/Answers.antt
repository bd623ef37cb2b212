use Rattle.std.proofs.Common.{◌≡◌, true, Contains, inl, inr, rules, subst, sym}
use Rattle.std.specs.Ordering.{nat_cmp}
use Rattle.std.specs.BTreeSet.{contains}
use Rattle.std.proofs.lemmas.Map.Views.{btree_set_contains_iff}
use Rattle.lattice_core.specs.Keep.{numbers_exact}
use Rattle.lattice_core.specs.MemberLaws.{Contains-cons_cases}
use Rattle.state_core.specs.declared.item.Item.{Item}
use Rattle.watch_core.proofs.Seeding.{adds_next, adds_none}
use Rattle.watch_core.proofs.seeds.add_touched.Goals as goal

pub loop-number-init : goal.loop-number-init
loop-number-init c =
    let all : c.into_iter-number-iterator.result ≡ c.args.touched.now.keys = search rules in
    adds_none c.args.state.now (λ item. contains nat_cmp c.args.touched.now item.change ≡ true)
    (λ item. Contains c.into_iter-number-iterator.result item.change) c.args.seeds.now.items
    (λ item is want. subst (λ l. Contains l item.change) (sym all) ((btree_set_contains_iff numbers_exact.total numbers_exact.exact c.args.touched.now item.change).0 want))

pub loop-number-preserved : goal.loop-number-preserved
loop-number-preserved c =
    let number = c.in-Some.number.now in
    adds_next c.args.state.now (λ item. contains nat_cmp c.args.touched.now item.change ≡ true)
    (λ item. Contains c.loop-number.number-iterator item.change) (λ item. item.change ≡ number)
    (λ item. Contains c.next.new.self item.change) c.args.seeds.now.items c.loop-number.seeds.items c.add_change.new.seeds.items
    (λ (item : Item) has. elim (Contains-cons_cases number c.next.new.self item.change (subst (λ l. Contains l item.change) c.in-Some.ensures.steps has)) [ inl same ↦ inl (sym same) | inr later ↦ inr later ])
    c.loop-number.invariant c.in_ok-add_change.ensures
