-- The walk finds the first fault.
use Rattle.std.proofs.Common.{◌≡◌, List, [], ◌∷◌, Option, Some, None, refl, ap}
use Rattle.std.proofs.lemmas.List.Elements.{All-nil, All-cons}
use Rattle.serde_json.specs.Data.{no_members, member}
use Rattle.gate_rules.specs.Walk.{Fault, or_later, first_fault, first_in_list}
use Rattle.gate_rules.specs.FirstFaults.{FindsFirst, FindsFirstMember, FindsFirstItem, members_of}

module _ {A : Type 0} (judge : A → Option Fault) (x : A) (xs : List A) where
  later_fault : (later : Option Fault) → judge x ≡ None → FindsFirst judge xs later → FindsFirst judge (x ∷ xs) later
  later_fault None none found = All-cons (λ y. judge y ≡ None) x xs none found
  later_fault (Some fault) none found = record {
    before = x ∷ found.before;
    at = found.at;
    after = found.after;
    split = ap (λ l. x ∷ l) found.split;
    here = found.here;
    none_before = All-cons (λ y. judge y ≡ None) x found.before none found.none_before;
  }

  found_at : (here : Option Fault) (later : Option Fault) → judge x ≡ here → FindsFirst judge xs later
      → FindsFirst judge (x ∷ xs) (or_later here later)
  found_at None later is found = later_fault later is found
  found_at (Some fault) later is found = record {
    before = [];
    at = x;
    after = xs;
    split = refl;
    here = is;
    none_before = All-nil (λ y. judge y ≡ None);
  }

pub finds_first_member : FindsFirstMember
finds_first_member judge no_members = All-nil (λ m. judge m.0 m.1 ≡ None)
finds_first_member judge (member key d ms) = found_at (λ m. judge m.0 m.1) (key, d) (members_of ms) (judge key d)
    (first_fault judge ms) refl (finds_first_member judge ms)

pub finds_first_item : FindsFirstItem
finds_first_item judge [] = All-nil (λ d. judge d ≡ None)
finds_first_item judge (d ∷ ds) =
    found_at judge d ds (judge d) (first_in_list judge ds) refl (finds_first_item judge ds)
