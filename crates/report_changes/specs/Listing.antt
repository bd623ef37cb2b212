-- What is listed of verdicts, and the tests of it.
use Rattle.std.specs.Prelude.{◌≡◌, Contains, Bool, true, false, not, ◌&&◌, ◌||◌, ◌==◌, List, ◌++◌, filter}
use Rattle.std.specs.List.{list_any}
use Rattle.state_core.specs.declared.item.Item.{Item}
use Rattle.gate_rules.specs.declared.condition.Clause.{Clause}
use Rattle.gate_rules.specs.declared.condition.Clause.TheVariants.{OpenState, CurrentSet, StatusIn, Approval}
use Rattle.gate_rules.specs.declared.condition.Side.{Side}
use Rattle.gate_rules.specs.declared.condition.Side.TheVariants.{Require, Reject}
use Rattle.ready_core.specs.declared.verdicts.Left.{Left}
use Rattle.ready_core.specs.declared.verdicts.Refusal.{Refusal}
use Rattle.ready_core.specs.declared.verdicts.Refusal.TheVariants.{Own, Cycle, Unknown, Dependency}
use Rattle.report_changes.specs.Over.{is_over}
use Rattle.ready_core.specs.Verdicts.{Judged, items_out}

abbrev pub is_waiting : Left → Bool
is_waiting left = not (is_over left.refusal)

-- the items that are ready, and the others that aren't over
abbrev pub listed_of : Judged → Judged
listed_of verdicts = record { ready = verdicts.ready; out = filter is_waiting verdicts.out }

-- ---- whether two are one

abbrev pub is_same_item : Item → Item → Bool
is_same_item a b = (a.change == b.change) && (a.set == b.set)

abbrev pub same_side : Side → Side → Bool
same_side Require Require = true
same_side Require Reject = false
same_side Reject Require = false
same_side Reject Reject = true

abbrev pub same_clause : Clause → Clause → Bool
same_clause OpenState OpenState = true
same_clause CurrentSet CurrentSet = true
same_clause StatusIn StatusIn = true
same_clause (Approval m) (Approval n) = m == n
same_clause a b = false

abbrev pub same_refusal : Refusal → Refusal → Bool
same_refusal (Own a) (Own b) = same_side a.side b.side && same_clause a.clause b.clause
same_refusal Cycle Cycle = true
same_refusal (Unknown m) (Unknown n) = m == n
same_refusal (Dependency m) (Dependency n) = m == n
same_refusal a b = false

-- ---- what is listed

abbrev pub is_ready : Judged → Item → Bool
is_ready listing item = list_any (is_same_item item) listing.ready

abbrev pub is_out : Judged → Item → Bool
is_out listing item = list_any (λ left. is_same_item item left.item) listing.out

abbrev pub is_out_for : Judged → Left → Bool
is_out_for listing left =
    list_any (λ other. is_same_item left.item other.item && same_refusal left.refusal other.refusal) listing.out

abbrev pub is_listed : Judged → Item → Bool
is_listed listing item = is_ready listing item || is_out listing item

abbrev pub listed_items : Judged → List Item
listed_items listing = listing.ready ++ items_out listing.out

-- it is left out for this refusal
abbrev pub IsLeftOutFor : List Left → Item → Refusal → Type 0
IsLeftOutFor out item refusal = (left : Left) × Contains out left × (left.item ≡ item) × (left.refusal ≡ refusal)
