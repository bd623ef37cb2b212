-- What is found in an object that was made for its fields' values.
use Rattle.std.proofs.Common.{◌≡◌, ℕ, ◌+◌, ◌<◌, ◌≤◌, List, [], ◌∷◌, length, Option, Some, None, IsSome, Ordering, Less}
use Rattle.std.proofs.Common.{Equal, Greater, refl, sym, ap, ◌∙◌, subst, arith, ⊎_elim}
use Rattle.std.proofs.lemmas.Bool.{cases_lt, false≢true}
use Rattle.std.proofs.lemmas.Bool.Decides.{nat_tests}
use Rattle.std.proofs.lemmas.Cmp.{nat_list_cmp_total, tied_itself}
use Rattle.std.proofs.lemmas.Map.Lookups.{exact_bytes}
use Rattle.std.specs.Cmp.Lexicographic.{slice_cmp}
use Rattle.std.specs.Ordering.{nat_cmp, match_ordering}
use Rattle.serde_json.specs.Data.{Data, Members}
use Rattle.serde_json.specs.Find.{get_member}
use Rattle.op_text.specs.declared.field.Field.{Field}
use Rattle.op_text.specs.Field.{key_of}
use Rattle.op_text.specs.Shape.{IsFieldKey, found_at}
use Rattle.op_text.specs.Text.{all_fields, with_member, members_over}
use Rattle.op_text.proofs.Fields.{place_of, field_at, same_place, slice_cmp-key_of, Placed, placed}

skip_less : (o : Option Data) (k l : List ℕ) (rest : Members) → slice_cmp nat_cmp k l ≡ Less
    → get_member k (with_member l o rest) ≡ get_member k rest
skip_less None k l rest e = refl
skip_less (Some d) k l rest e = ap (λ r. match_ordering r (get_member k rest) (Some d) (get_member k rest)) e

skip_greater : (o : Option Data) (k l : List ℕ) (rest : Members) → slice_cmp nat_cmp k l ≡ Greater
    → get_member k (with_member l o rest) ≡ get_member k rest
skip_greater None k l rest e = refl
skip_greater (Some d) k l rest e = ap (λ r. match_ordering r (get_member k rest) (Some d) (get_member k rest)) e

here : (o : Option Data) (k : List ℕ) (rest : Members) → get_member k rest ≡ None
    → get_member k (with_member k o rest) ≡ o
here None k rest none = none
here (Some d) k rest none =
    ap (λ r. match_ordering r (get_member k rest) (Some d) (get_member k rest)) (tied_itself nat_list_cmp_total k)

less_is : (a b : ℕ) → a < b → nat_cmp a b ≡ Less
less_is a b h = grind (arith, nat_tests)

greater_is : (a b : ℕ) → b < a → nat_cmp a b ≡ Greater
greater_is a b h = grind (arith, nat_tests)

module _ (values : Field → Option Data) where
  nothing_before : (fs : List Field) (n : ℕ) → Placed n fs → (f : Field) → place_of f < n
      → get_member (key_of f) (members_over fs values) ≡ None
  nothing_before [] n placed f h = refl
  nothing_before (x ∷ fs) n placed f h =
      skip_less (values x) (key_of f) (key_of x) (members_over fs values)
      (slice_cmp-key_of f x ∙ less_is (place_of f) (place_of x) (omega (arith, placed.0)))
      ∙ nothing_before fs (n + 1) placed.1 f (omega arith)

  found_from : (fs : List Field) (n : ℕ) → Placed n fs → (f : Field) → n ≤ place_of f → place_of f < n + length fs
      → get_member (key_of f) (members_over fs values) ≡ values f
  found_from [] n placed f low high = absurd (omega arith)
  found_from (x ∷ fs) n placed f low high =
      ⊎_elim
      (λ later. skip_greater (values x) (key_of f) (key_of x) (members_over fs values) (slice_cmp-key_of f x ∙ greater_is (place_of f) (place_of x) (omega (arith, placed.0)))
      ∙ found_from fs (n + 1) placed.1 f (omega arith) (omega arith))
      (λ now. subst (λ y. get_member (key_of y) (members_over (x ∷ fs) values) ≡ values y) (same_place x f (omega (arith, placed.0)))
      (here (values x) (key_of x) (members_over fs values) (nothing_before fs (n + 1) placed.1 x (omega (arith, placed.0)))))
      (cases_lt n (place_of f))

  -- under each field's key is its value
  pub found_at-members_over : (f : Field) → found_at f (members_over all_fields values) ≡ values f
  found_at-members_over f = found_from all_fields 0 placed f (omega arith) (omega (arith, (field_at f).0))

  key_among : (o : Option Data) (f : Field) (rest : Members) (key : List ℕ)
      → (IsSome (get_member key rest) → IsFieldKey key) → IsSome (get_member key (with_member (key_of f) o rest))
      → IsFieldKey key
  key_among None f rest key later found = later found
  key_among (Some d) f rest key later found = by_order (slice_cmp nat_cmp key (key_of f)) refl found
    where
      by_order : (r : Ordering) → slice_cmp nat_cmp key (key_of f) ≡ r
          → IsSome (match_ordering r (get_member key rest) (Some d) (get_member key rest)) → IsFieldKey key
      by_order Less is h = later h
      by_order Equal is h = (f, sym (exact_bytes key (key_of f) is))
      by_order Greater is h = later h

  -- each key is a field's
  pub only_fields : (fs : List Field) (key : List ℕ) → IsSome (get_member key (members_over fs values)) → IsFieldKey key
  only_fields [] key found = absurd (false≢true found)
  only_fields (f ∷ fs) key found = key_among (values f) f (members_over fs values) key (only_fields fs key) found
