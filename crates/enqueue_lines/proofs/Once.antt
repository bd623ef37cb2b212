-- An item that is ready is handed over no more while it stays so.
use Rattle.std.proofs.Common.{◌≡◌, ◌∙◌, ◌++◌, ◌∷◌, [], ℕ, Bool, true, false, not, List, refl, sym, ap, subst, inl, inr}
use Rattle.std.specs.Prelude.{Contains, ◌||◌, ◌⊎◌, filter}
use Rattle.std.specs.List.{list_any}
use Rattle.std.proofs.lemmas.Bool.{false≢true}
use Rattle.lattice_core.specs.MemberLaws.{Contains-of_filter, Contains-none}
use Rattle.std.proofs.lemmas.List.Elements.{Contains-append_cases}
use Rattle.state_core.specs.declared.item.Item.{Item}
use Rattle.report_changes.specs.Listing.{is_same_item}
use Rattle.enqueue_lines.specs.Groups.{ReadySoFar, StaysReady, fresh, handed_over, is_among, ready_first}
use Rattle.report_changes.specs.Searching.{finds, item_is_itself}

is_had : (items : List Item) (item : Item) → Contains items item → is_among items item ≡ true
is_had items item there = finds (is_same_item item) items item there (item_is_itself item)

or_true : (p q : Bool) → p ≡ true → not (p || q) ≡ true → false ≡ true
or_true true q one none = none
or_true false q one none = one

not_fresh : (held : ReadySoFar) (now : List Item) (item : Item) → Contains held.ready item
    → ¬ Contains (fresh held now) item
not_fresh held now item ready there =
    let kept = Contains-of_filter (λ i. not (is_among held.ready i || is_among held.earlier i)) now item there in
    false≢true (or_true (is_among held.ready item) (is_among held.earlier item) (is_had held.ready item ready) kept.1)

pub handed_once : (item : Item) (held : ReadySoFar) (later : List (List Item)) → Contains held.ready item
    → StaysReady item later → ¬ Contains (handed_over held later) item
handed_once item held [] ready stays there = Contains-none item there
handed_once item held (now ∷ later) ready stays there =
    elim (Contains-append_cases (fresh held now) (handed_over (ready_first now) later) item there) [
      | inl first ↦ not_fresh held now item ready first
      | inr then ↦ handed_once item (ready_first now) later stays.0 stays.1 then
    ]
