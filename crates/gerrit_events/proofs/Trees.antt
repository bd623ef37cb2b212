-- Trees of JSON beside the data that they stand for.
use Rattle.std.proofs.Common.{◌≡◌, ℕ, Bool, true, false, ◌&&◌, cond, List, [], ◌∷◌, map, Option, Some, None, is_some}
use Rattle.std.proofs.Common.{option_map, refl, sym, ap, ◌∙◌, Bor}
use Rattle.std.proofs.lemmas.Bool.{and_parts, false≢true}
use Rattle.std.proofs.lemmas.Slice.Eq.{bytes_eq-Decides}
use Rattle.std.specs.Prelude.{option_and_then}
use Rattle.std.specs.Str.{bytes_eq}
use Rattle.json.specs.Find as look
use Rattle.json.specs.Json as json
use Rattle.json.specs.Json.{Json}
use Rattle.json.specs.Lex.{tokens}
use Rattle.json.specs.Reads.{Yields}
use Rattle.json.specs.Token.{Token}
use Rattle.json.specs.declared.token.Token.{Token as Next}
use Rattle.json.specs.Value.{value_view, items_of, items_view}
use Rattle.json.specs.declared.value.Value.{Value}
use Rattle.serde_json.proofs.Views.{get_member-put, get_member-put_other}
use Rattle.serde_json.specs.Data.{Num, Data, number, array, object, Members, no_members, put}
use Rattle.serde_json.specs.Find.{as_bool, as_i64, as_number, as_str, get, get_member}
use Rattle.serde_json.specs.Read.{number_of, of_json, of_items, of_members, max_depth, read}
use Rattle.gerrit_events.specs.Trees.{number_data, data_of, items_data, members_data, data_in, has_values}
use Rattle.gerrit_events.specs.Trees.{items_have_values, members_have_values}
use Rattle.gerrit_events.specs.Values.{alone_or_items, list_of}

-- ---- what is read

number_read : (n : Option Num) → is_some n ≡ true → option_map number n ≡ Some (number_data n)
number_read None h = absurd (false≢true h)
number_read (Some n) h = refl

number_unread : (n : Option Num) → is_some n ≡ false → option_map number n ≡ None
number_unread None h = refl
number_unread (Some n) h = absurd (false≢true (sym h))

mutual
  pub read_as : (j : Json) → has_values j ≡ true → of_json j ≡ Some (data_of j)
  read_as json.null h = refl
  read_as (json.boolean b) h = refl
  read_as (json.number s) h = number_read (number_of s) h
  read_as (json.string s) h = refl
  read_as (json.array js) h = rw (items_read_as js h) refl
  read_as (json.object ms) h = rw (members_read_as ms no_members h) refl

  items_read_as : (js : json.Items) → items_have_values js ≡ true → of_items js ≡ Some (items_data js)
  items_read_as json.no_items h = refl
  items_read_as (json.item j js) h =
      let both = and_parts (has_values j) (items_have_values js) h in
      rw (read_as j both.0, items_read_as js both.1) refl

  members_read_as : (ms : json.Members) (found : Members) → members_have_values ms ≡ true
      → of_members ms found ≡ Some (members_data ms found)
  members_read_as json.no_members found h = refl
  members_read_as (json.member k j ms) found h =
      let both = and_parts (has_values j) (members_have_values ms) h in
      rw (read_as j both.0) (members_read_as ms (put k (data_of j) found) both.1)

-- ---- what isn't read, since a number has no value

item_unread : (j : Json) (js : json.Items) (b : Bool) → has_values j ≡ b → (has_values j ≡ false → of_json j ≡ None)
    → (items_have_values js ≡ false → of_items js ≡ None) → (b && items_have_values js) ≡ false
    → of_items (json.item j js) ≡ None
item_unread j js false is first rest h = rw (first is) refl
item_unread j js true is first rest h = rw (read_as j is, rest h) refl

member_unread : (k : List ℕ) (j : Json) (ms : json.Members) (found : Members) (b : Bool) → has_values j ≡ b
    → (has_values j ≡ false → of_json j ≡ None)
    → (members_have_values ms ≡ false → of_members ms (put k (data_of j) found) ≡ None)
    → (b && members_have_values ms) ≡ false → of_members (json.member k j ms) found ≡ None
member_unread k j ms found false is first rest h = rw (first is) refl
member_unread k j ms found true is first rest h = rw (read_as j is) (rest h)

mutual
  pub unread : (j : Json) → has_values j ≡ false → of_json j ≡ None
  unread json.null h = absurd (false≢true (sym h))
  unread (json.boolean b) h = absurd (false≢true (sym h))
  unread (json.number s) h = number_unread (number_of s) h
  unread (json.string s) h = absurd (false≢true (sym h))
  unread (json.array js) h = ap (option_map array) (items_unread js h)
  unread (json.object ms) h = ap (option_map object) (members_unread ms no_members h)

  items_unread : (js : json.Items) → items_have_values js ≡ false → of_items js ≡ None
  items_unread json.no_items h = absurd (false≢true (sym h))
  items_unread (json.item j js) h = item_unread j js (has_values j) refl (unread j) (items_unread js) h

  members_unread : (ms : json.Members) (found : Members) → members_have_values ms ≡ false → of_members ms found ≡ None
  members_unread json.no_members found h = absurd (false≢true (sym h))
  members_unread (json.member k j ms) found h =
      member_unread k j ms found (has_values j) refl (unread j) (members_unread ms (put k (data_of j) found)) h

-- ---- the whole text

abbrev whole : Option (Json × List Token) → Option Data
whole o = option_and_then of_json (option_and_then (λ p. json.if_last p.0 p.1) o)

abbrev Begins : List ℕ → Json → List Token → Type 0
Begins text j rest = json.value max_depth (tokens text) ≡ Some (j, rest)

pub longer : (text : List ℕ) (j : Json) (rest after : List Token) (next : Option Next) → Begins text j rest
    → Yields rest next after → is_some next ≡ true → read text ≡ None
longer text j rest after None begins yields h = absurd (false≢true h)
longer text j rest after (Some t) begins yields h = ap whole (begins ∙ ap (λ r. Some (j, r)) yields)

ended : (text : List ℕ) (j : Json) (rest after : List Token) (next : Option Next) → Begins text j rest
    → Yields rest next after → is_some next ≡ false → Begins text j []
ended text j rest after None begins yields h = begins ∙ ap (λ r. Some (j, r)) yields.0
ended text j rest after (Some t) begins yields h = absurd (false≢true (sym h))

module _ (text : List ℕ) (j : Json) (rest after : List Token) (next : Option Next) (begins : Begins text j rest)
    (yields : Yields rest next after) (last : is_some next ≡ false) where
  pub read_whole : has_values j ≡ true → read text ≡ Some (data_of j)
  read_whole h = ap whole (ended text j rest after next begins yields last) ∙ read_as j h

  pub unread_whole : has_values j ≡ false → read text ≡ None
  unread_whole h = ap whole (ended text j rest after next begins yields last) ∙ unread j h

-- ---- looking into a tree

abbrev or_else : Option Data → Option Data → Option Data
or_else None d = d
or_else (Some e) d = Some e

put_found : (name k : List ℕ) (j : Json) (found : Members) (b : Bool) → bytes_eq k name ≡ b
    → get_member name (put k (data_of j) found)
    ≡ or_else (option_map data_of (cond b (Some j) None)) (get_member name found)
put_found name k j found true is =
    let same = (bytes_eq-Decides k name).0 is in
    ap (λ n. get_member n (put k (data_of j) found)) (sym same) ∙ get_member-put k (data_of j) found
put_found name k j found false is =
    get_member-put_other name k (data_of j) found
    (λ same. false≢true (sym is ∙ (bytes_eq-Decides k name).1 (sym same)))

member_found : (name k : List ℕ) (j : Json) (found : Members) (later : Option Json)
    → or_else (option_map data_of later) (get_member name (put k (data_of j) found)) ≡ or_else
    (option_map data_of (look.later_or later (cond (bytes_eq k name) (Some j) None))) (get_member name found)
member_found name k j found None = put_found name k j found (bytes_eq k name) refl
member_found name k j found (Some i) = refl

members_found : (name : List ℕ) (ms : json.Members) (found : Members)
    → get_member name (members_data ms found)
    ≡ or_else (option_map data_of (look.get_member name ms)) (get_member name found)
members_found name json.no_members found = refl
members_found name (json.member k j ms) found =
    members_found name ms (put k (data_of j) found)
    ∙ member_found name k j found (look.get_member name ms)

or_none : (o : Option Data) → or_else o None ≡ o
or_none None = refl
or_none (Some d) = refl

number_has_none : (name : List ℕ) (n : Option Num) → get name (number_data n) ≡ None
number_has_none name None = refl
number_has_none name (Some n) = refl

-- the last member of a name is what the data has there
pub found_in : (name : List ℕ) (j : Json) → option_map data_of (look.get name j) ≡ get name (data_of j)
found_in name json.null = refl
found_in name (json.boolean b) = refl
found_in name (json.number s) = sym (number_has_none name (number_of s))
found_in name (json.string s) = refl
found_in name (json.array js) = refl
found_in name (json.object ms) =
    sym (members_found name ms no_members ∙ or_none (option_map data_of (look.get_member name ms)))

number_no_text : (n : Option Num) → as_str (number_data n) ≡ None
number_no_text None = refl
number_no_text (Some n) = refl

pub text_found : (j : Json) → look.as_str j ≡ as_str (data_of j)
text_found json.null = refl
text_found (json.boolean b) = refl
text_found (json.number s) = sym (number_no_text (number_of s))
text_found (json.string s) = refl
text_found (json.array js) = refl
text_found (json.object ms) = refl

number_no_bool : (n : Option Num) → None ≡ as_bool (number_data n)
number_no_bool None = refl
number_no_bool (Some n) = refl

pub truth_found : (j : Json) → look.as_bool j ≡ as_bool (data_of j)
truth_found json.null = refl
truth_found (json.boolean b) = refl
truth_found (json.number s) = number_no_bool (number_of s)
truth_found (json.string s) = refl
truth_found (json.array js) = refl
truth_found (json.object ms) = refl

-- what was found, as a caller has it
pub data_of_found : {A : Type 0} (found : Option (Bor (Value A)))
    → option_map (λ v. data_in v.now) found ≡ option_map data_of
    (option_map (λ v. value_view v.now) found)
data_of_found None = refl
data_of_found (Some v) = refl

-- ---- whole numbers

number_whole : (n : Option Num) → option_and_then as_i64 n ≡ option_and_then as_i64 (as_number (number_data n))
number_whole None = refl
number_whole (Some n) = refl

pub whole_at : (j : Json) → option_and_then (λ s. option_and_then as_i64 (number_of s)) (look.as_number j)
    ≡ option_and_then as_i64 (as_number (data_of j))
whole_at json.null = refl
whole_at (json.boolean b) = refl
whole_at (json.number s) = number_whole (number_of s)
whole_at (json.string s) = refl
whole_at (json.array js) = refl
whole_at (json.object ms) = refl

-- ---- items

list_of-items_data : (js : List Json) → list_of (items_data (items_of js)) ≡ map data_of js
list_of-items_data [] = refl
list_of-items_data (j ∷ js) = ap (λ rest. data_of j ∷ rest) (list_of-items_data js)

data_of_each : {A : Type 0} (vs : List (Value A)) → map data_of (map value_view vs) ≡ map data_in vs
data_of_each [] = refl
data_of_each (v ∷ vs) = ap (λ rest. data_in v ∷ rest) (data_of_each vs)

number_alone : (n : Option Num) → number_data n ∷ [] ≡ alone_or_items (number_data n)
number_alone None = refl
number_alone (Some n) = refl

items_at : {A : Type 0} (j : Json) (values : List (Value A)) → look.as_array j ≡ Some (items_view values)
    → map data_in values ≡ alone_or_items (data_of j)
items_at (json.array js) values is = let same : js ≡ items_view values = cc in
    sym (ap (λ items. list_of (items_data items)) same ∙ list_of-items_data (map value_view values) ∙ data_of_each values)
items_at json.null values is = absurd (false≢true (ap is_some is))
items_at (json.boolean b) values is = absurd (false≢true (ap is_some is))
items_at (json.number s) values is = absurd (false≢true (ap is_some is))
items_at (json.string s) values is = absurd (false≢true (ap is_some is))
items_at (json.object ms) values is = absurd (false≢true (ap is_some is))

-- a list has its items, and any other value itself
pub items_are : {A : Type 0} (v : Value A) (values : List (Value A))
    → look.as_array (value_view v) ≡ Some (items_view values)
    → map data_in values ≡ alone_or_items (data_in v)
items_are v values is = items_at (value_view v) values is

pub alone_is : (j : Json) → look.as_array j ≡ None → data_of j ∷ [] ≡ alone_or_items (data_of j)
alone_is json.null is = refl
alone_is (json.boolean b) is = refl
alone_is (json.number s) is = number_alone (number_of s)
alone_is (json.string s) is = refl
alone_is (json.array js) is = absurd (false≢true (sym (ap is_some is)))
alone_is (json.object ms) is = refl
