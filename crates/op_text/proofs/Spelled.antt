-- The written text of a good body, or of an operation, spells it.
use Rattle.std.proofs.Common.{◌≡◌, ℕ, ℤ, ◌^◌, ◌<◌, ◌≤◌, pos, negsuc, List, [], ◌∷◌, true, ◌&&◌, cond, Option, Some}
use Rattle.std.proofs.Common.{None, IfSome, option_map, refl, sym, ap, ◌∙◌, append-nil, arith}
use Rattle.std.proofs.Common.{rules, le-leb}
use Rattle.std.proofs.lemmas.Bool.{lt-ltb}
use Rattle.std.proofs.lemmas.Bool.Decides.{nat_tests}
use Rattle.std.specs.Prelude.{option_and_then, FitsSigned, IsUtf8}
use Rattle.std.specs.Int.{w8}
use Rattle.json.specs.Json as json
use Rattle.json.specs.Lex.{tokens}
use Rattle.json.specs.Token.{Token}
use Rattle.json.specs.Tree as tree
use Rattle.serde_json.specs.Data.{Data, number, string, object, Members, no_members, member, put}
use Rattle.serde_json.specs.Find.{of_integer, as_str}
use Rattle.serde_json.specs.Read.{read, max_depth, of_json, of_members}
use Rattle.serde_json.specs.Written.{outline, members_outline}
use Rattle.serde_json.proofs.Numbers.{number_of-decimal, number_of-negative}
use Rattle.json.proofs.Printed.Trees.{value-json_tokens}
use Rattle.review_ops.specs.Timestamp.{Timestamp, IsNumbered}
use Rattle.review_ops.specs.Deed.{Deed, patch_set, vote, withdraw, abandon, restore, merged, change_of, set_of}
use Rattle.review_ops.specs.Deed.{message_of, parent_of, label_of, voter_of, value_of}
use Rattle.op_text.specs.declared.field.Field.{Field}
use Rattle.op_text.specs.declared.field.Field.TheVariants.{Change, Label, Message, Op, Parent, Seq, Set, Site, Start}
use Rattle.op_text.specs.declared.field.Field.TheVariants.{Time, Value, Voter}
use Rattle.op_text.specs.Field.{key_of, name_of, rule_of, stamp_rule, set_rule, message_rule, parent_rule, vote_rule}
use Rattle.op_text.specs.Field.{value_rule, obeys, accepts, is_within, is_vote_value, number_in, integer_in}
use Rattle.op_text.specs.Canonical.{FitsText}
use Rattle.op_text.specs.Text.{form_of, whole, data_of, all_fields, with_member, members_over, members_of}
use Rattle.op_text.specs.Spelling.{kind_of, SpellsDeed, HoldsStamp}
use Rattle.op_text.proofs.Found.{found_at-members_over, only_fields}

-- ---- a value that is read as it was written

record Readable (d : Data) : Type 0 where
  back : of_json (outline d) ≡ Some d
  flat : tree.depth (outline d) ≡ 0

readable_text : (text : List ℕ) → Readable (string text)
readable_text text = record { back = refl; flat = refl }

readable_whole : (n : ℕ) → n < 2 ^ 64 → Readable (whole n)
readable_whole n h = record { back = ap (option_map number) (number_of-decimal n h); flat = refl }

readable_integer : (z : ℤ) → FitsSigned w8 z → Readable (number (of_integer z))
readable_integer (pos n) h = readable_whole n (search (rules, h))
readable_integer (negsuc n) h =
    let small : n < 2 ^ 63 = search (rules, h) in
    record { back = ap (option_map number) (number_of-negative n small); flat = refl }

-- ---- members that are read as they were written

abbrev AreReadable : Members → Type 0
AreReadable no_members = Unit {0}
AreReadable (member k d rest) = Readable d × AreReadable rest

abbrev puts : Members → Members → Members
puts found no_members = found
puts found (member k d rest) = puts (put k d found) rest

members_back : (rest found : Members) → AreReadable rest
    → of_members (members_outline rest) found ≡ Some (puts found rest)
members_back no_members found h = refl
members_back (member k d rest) found h = rw h.0.back (members_back rest (put k d found) h.1)

members_flat : (rest : Members) → AreReadable rest → tree.members_depth (members_outline rest) ≡ 0
members_flat no_members h = refl
members_flat (member k d rest) h = rw (h.0.flat, members_flat rest h.1) refl

abbrev whole_of : Option (json.Json × List Token) → Option Data
whole_of parsed = option_and_then of_json (option_and_then (λ p. json.if_last p.0 p.1) parsed)

object_read : (held : Members) (text : List ℕ) → AreReadable held → puts no_members held ≡ held
    → tokens text ≡ tree.json_tokens (outline (object held)) → read text ≡ Some (object held)
object_read held text h ordered lexed =
    let j = outline (object held) in
    let back : of_json j ≡ Some (object held) = ap (option_map object) (members_back held no_members h ∙ ap Some ordered) in
    let flat = members_flat held h in
    ap whole_of (ap (json.value max_depth) (lexed ∙ sym (append-nil (tree.json_tokens j))) ∙ value-json_tokens j max_depth [] (omega (arith, flat))) ∙ back

-- ---- the members of a deed

readable_with : (key : List ℕ) (o : Option Data) (rest : Members) → IfSome o Readable → AreReadable rest
    → AreReadable (with_member key o rest)
readable_with key None rest h later = later
readable_with key (Some d) rest h later = (h, later)

readable_over : (values : Field → Option Data) → ((f : Field) → IfSome (values f) Readable) → (fs : List Field)
    → AreReadable (members_over fs values)
readable_over values h [] = tt
readable_over values h (f ∷ fs) =
    readable_with (key_of f) (values f) (members_over fs values) (h f) (readable_over values h fs)

IfSome-map : {A B : Type 0} (f : A → B) (P : A → Type 0) (Q : B → Type 0) → ((x : A) → P x → Q (f x)) → (o : Option A)
    → IfSome o P → IfSome (option_map f o) Q
IfSome-map f P Q g None h = tt
IfSome-map f P Q g (Some x) h = g x h

readable_texts : (o : Option (List ℕ)) → IfSome (option_map string o) Readable
readable_texts None = tt
readable_texts (Some text) = readable_text text

readable_number : (n : ℕ) → n < 2 ^ 32 → Readable (whole n)
readable_number n h = readable_whole n (omega (arith, h))

module _ (stamp : Option Timestamp) (deed : Deed) (numbered : IfSome stamp IsNumbered) (fits : FitsText deed) where
  readable : (f : Field) → IfSome (data_of stamp deed f) Readable
  readable Change = readable_number (change_of deed) fits.change
  readable Label = readable_texts (label_of deed)
  readable Message = readable_texts (message_of deed)
  readable Op = readable_text (name_of (kind_of deed))
  readable Parent = IfSome-map whole (λ n. n < 2 ^ 32) Readable readable_number (parent_of deed) fits.parent
  readable Seq = IfSome-map (λ t. whole t.seq) IsNumbered Readable (λ t h. readable_whole t.seq h.seq) stamp numbered
  readable Set = IfSome-map whole (λ n. n < 2 ^ 32) Readable readable_number (set_of deed) fits.set
  readable Site = IfSome-map (λ t. whole t.site) IsNumbered Readable
      (λ t h. readable_whole t.site (omega (arith, h.site))) stamp numbered
  readable Start = IfSome-map (λ t. whole t.start) IsNumbered Readable
      (λ t h. readable_whole t.start (omega (arith, h.start))) stamp numbered
  readable Time =
      IfSome-map (λ t. whole t.time) IsNumbered Readable (λ t h. readable_whole t.time h.time) stamp numbered
  readable Value =
      IfSome-map (λ z. number (of_integer z)) (FitsSigned w8) Readable readable_integer (value_of deed) fits.value
  readable Voter = readable_texts (voter_of deed)

-- each key goes last
in_order : (stamp : Option Timestamp) (deed : Deed) → puts no_members (members_of stamp deed) ≡ members_of stamp deed
in_order None (patch_set change set message None) = refl
in_order None (patch_set change set message (Some parent)) = refl
in_order None (vote change set label voter value) = refl
in_order None (withdraw change set label voter) = refl
in_order None (abandon change) = refl
in_order None (restore change) = refl
in_order None (merged change) = refl
in_order (Some stamp) (patch_set change set message None) = refl
in_order (Some stamp) (patch_set change set message (Some parent)) = refl
in_order (Some stamp) (vote change set label voter value) = refl
in_order (Some stamp) (withdraw change set label voter) = refl
in_order (Some stamp) (abandon change) = refl
in_order (Some stamp) (restore change) = refl
in_order (Some stamp) (merged change) = refl

-- ---- each field obeys its rule

within_bounds : (low high n : ℕ) → low ≤ n → n ≤ high → is_within low high (Some n) ≡ true
within_bounds low high n above below = grind (arith, nat_tests)

within32 : (n : ℕ) → n < 2 ^ 32 → is_within 0 4294967295 (Some n) ≡ true
within32 n h = within_bounds 0 4294967295 n (omega arith) (omega (arith, h))

value_within : (z : ℤ) → FitsSigned w8 z → is_vote_value (integer_in (number (of_integer z))) ≡ true
value_within (pos n) h =
    let small : n < 2 ^ 63 = search (rules, h) in
    let below : n ≤ 127 = search (rules, h) in
    ap (λ b. is_vote_value (cond b (Some (pos n)) None)) (lt-ltb n (2 ^ 63) small) ∙ le-leb n 127 below
value_within (negsuc n) h =
    let below : n ≤ 127 = search (rules, h) in
    ap (λ b. b && true) (le-leb n 127 below)

label_obeys : (deed : Deed) → obeys (vote_rule (kind_of deed)) Label (option_map string (label_of deed)) ≡ true
label_obeys (patch_set change set message parent) = refl
label_obeys (vote change set label voter value) = refl
label_obeys (withdraw change set label voter) = refl
label_obeys (abandon change) = refl
label_obeys (restore change) = refl
label_obeys (merged change) = refl

voter_obeys : (deed : Deed) → obeys (vote_rule (kind_of deed)) Voter (option_map string (voter_of deed)) ≡ true
voter_obeys (patch_set change set message parent) = refl
voter_obeys (vote change set label voter value) = refl
voter_obeys (withdraw change set label voter) = refl
voter_obeys (abandon change) = refl
voter_obeys (restore change) = refl
voter_obeys (merged change) = refl

message_obeys : (deed : Deed) → obeys (message_rule (kind_of deed)) Message (option_map string (message_of deed)) ≡ true
message_obeys (patch_set change set message parent) = refl
message_obeys (vote change set label voter value) = refl
message_obeys (withdraw change set label voter) = refl
message_obeys (abandon change) = refl
message_obeys (restore change) = refl
message_obeys (merged change) = refl

set_obeys : (deed : Deed) → IfSome (set_of deed) (λ n. n < 2 ^ 32)
    → obeys (set_rule (kind_of deed)) Set (option_map whole (set_of deed)) ≡ true
set_obeys (patch_set change set message parent) h = within32 set h
set_obeys (vote change set label voter value) h = within32 set h
set_obeys (withdraw change set label voter) h = within32 set h
set_obeys (abandon change) h = refl
set_obeys (restore change) h = refl
set_obeys (merged change) h = refl

parent_obeys : (deed : Deed) → IfSome (parent_of deed) (λ n. n < 2 ^ 32)
    → obeys (parent_rule (kind_of deed)) Parent (option_map whole (parent_of deed)) ≡ true
parent_obeys (patch_set change set message None) h = refl
parent_obeys (patch_set change set message (Some parent)) h = within32 parent h
parent_obeys (vote change set label voter value) h = refl
parent_obeys (withdraw change set label voter) h = refl
parent_obeys (abandon change) h = refl
parent_obeys (restore change) h = refl
parent_obeys (merged change) h = refl

value_obeys : (deed : Deed) → IfSome (value_of deed) (FitsSigned w8)
    → obeys (value_rule (kind_of deed)) Value (option_map (λ z. number (of_integer z)) (value_of deed)) ≡ true
value_obeys (patch_set change set message parent) h = refl
value_obeys (vote change set label voter value) h = value_within value h
value_obeys (withdraw change set label voter) h = refl
value_obeys (abandon change) h = refl
value_obeys (restore change) h = refl
value_obeys (merged change) h = refl

stamp_obeys : (field : Field) (low high : ℕ) (part : Timestamp → ℕ)
    → ((d : Data) → accepts field d ≡ is_within low high (number_in d)) → (stamp : Option Timestamp)
    → IfSome stamp (λ t. (low ≤ part t) × (part t ≤ high))
    → obeys (stamp_rule (form_of stamp)) field (option_map (λ t. whole (part t)) stamp) ≡ true
stamp_obeys field low high part by None h = refl
stamp_obeys field low high part by (Some t) h = by (whole (part t)) ∙ within_bounds low high (part t) h.0 h.1

IfSome-weaker : {A : Type 0} (P Q : A → Type 0) → ((x : A) → P x → Q x) → (o : Option A) → IfSome o P → IfSome o Q
IfSome-weaker P Q f None h = tt
IfSome-weaker P Q f (Some x) h = f x h

numbers_back : (o : Option ℕ) → option_and_then number_in (option_map whole o) ≡ o
numbers_back None = refl
numbers_back (Some n) = refl

texts_back : (o : Option (List ℕ)) → option_and_then as_str (option_map string o) ≡ o
texts_back None = refl
texts_back (Some text) = refl

integers_back : (o : Option ℤ) → IfSome o (FitsSigned w8)
    → option_and_then integer_in (option_map (λ z. number (of_integer z)) o) ≡ o
integers_back None h = refl
integers_back (Some (pos n)) h = let small : n < 2 ^ 63 = search (rules, h) in ap (λ b. cond b (Some (pos n)) None)
    (lt-ltb n (2 ^ 63) small)
integers_back (Some (negsuc n)) h = refl

module _ (stamp : Option Timestamp) (deed : Deed) (numbered : IfSome stamp IsNumbered) (fits : FitsText deed) where
  field_obeys : (f : Field) → obeys (rule_of (form_of stamp) (kind_of deed) f) f (data_of stamp deed f) ≡ true
  field_obeys Change = within32 (change_of deed) fits.change
  field_obeys Label = label_obeys deed
  field_obeys Message = message_obeys deed
  field_obeys Op = refl
  field_obeys Parent = parent_obeys deed fits.parent
  field_obeys Seq = stamp_obeys Seq 1 18446744073709551615 (λ t. t.seq) (λ d. refl) stamp
      (IfSome-weaker IsNumbered _ (λ t h. (h.first, omega (arith, h.seq))) stamp numbered)
  field_obeys Set = set_obeys deed fits.set
  field_obeys Site = stamp_obeys Site 0 65535 (λ t. t.site) (λ d. refl) stamp
      (IfSome-weaker IsNumbered _ (λ t h. (omega arith, omega (arith, h.site))) stamp numbered)
  field_obeys Start = stamp_obeys Start 0 4294967295 (λ t. t.start) (λ d. refl) stamp
      (IfSome-weaker IsNumbered _ (λ t h. (omega arith, omega (arith, h.start))) stamp numbered)
  field_obeys Time = stamp_obeys Time 0 18446744073709551615 (λ t. t.time) (λ d. refl) stamp
      (IfSome-weaker IsNumbered _ (λ t h. (omega arith, omega (arith, h.time))) stamp numbered)
  field_obeys Value = value_obeys deed fits.value
  field_obeys Voter = voter_obeys deed

  pub spells_written : (text : List ℕ) → tokens text ≡ tree.json_tokens (outline (object (members_of stamp deed)))
      → IsUtf8 text → SpellsDeed (form_of stamp) text (members_of stamp deed) deed
  spells_written text lexed utf8 =
      let found = found_at-members_over (data_of stamp deed) in
      let held = readable_over (data_of stamp deed) (readable stamp deed numbered fits) all_fields in
      record {
        object =
            record { utf8 = utf8; value = object_read (members_of stamp deed) text held (in_order stamp deed) lexed };
        shape = record {
          fields = λ f. ap (obeys (rule_of (form_of stamp) (kind_of deed) f) f) (found f) ∙ field_obeys f;
          only = only_fields (data_of stamp deed) all_fields;
        };
        holds = record {
          kind = ap (option_and_then as_str) (found Op);
          change = ap (option_and_then number_in) (found Change);
          set = ap (option_and_then number_in) (found Set) ∙ numbers_back (set_of deed);
          message = ap (option_and_then as_str) (found Message) ∙ texts_back (message_of deed);
          parent = ap (option_and_then number_in) (found Parent) ∙ numbers_back (parent_of deed);
          label = ap (option_and_then as_str) (found Label) ∙ texts_back (label_of deed);
          voter = ap (option_and_then as_str) (found Voter) ∙ texts_back (voter_of deed);
          value = ap (option_and_then integer_in) (found Value) ∙ integers_back (value_of deed) fits.value;
        };
      }

pub holds_written : (stamp : Timestamp) (deed : Deed) → HoldsStamp (members_of (Some stamp) deed) stamp
holds_written stamp deed =
    let found = found_at-members_over (data_of (Some stamp) deed) in
    record {
      time = ap (option_and_then number_in) (found Time);
      site = ap (option_and_then number_in) (found Site);
      start = ap (option_and_then number_in) (found Start);
      seq = ap (option_and_then number_in) (found Seq);
    }
