-- What an object of a gate file sets, by the value under each key.
use Rattle.std.specs.Prelude.{◌≡◌, ℕ, ℤ, negsuc, pos, int_le, List, [], ◌∷◌, map, Bool, true, false, ◌&&◌}
use Rattle.std.specs.Prelude.{if◌then◌else◌, Option, Some, None, option_map, option_and_then, is_some, unwrap_or, codes}
use Rattle.std.specs.Prelude.{filter_map}
use Rattle.std.specs.Char.{to_ascii_lowercase}
use Rattle.std.specs.Str.{bytes_eq}
use Rattle.footer_text.specs.Bases.{AreBases}
use Rattle.serde_json.specs.Data.{Data, null, boolean, number, string, array, object, Items, no_items, item, Members}
use Rattle.serde_json.specs.Data.{no_members, member}
use Rattle.serde_json.specs.Find.{get_member, as_bool, as_number, as_str, as_object, as_i64}
use Rattle.gate_rules.specs.Rules.{LabelRule, PatternRule, SideRules, GateRules}

abbrev pub list_of : Items → List Data
list_of no_items = []
list_of (item d ds) = d ∷ list_of ds

-- one value stands for the list of it alone
abbrev pub listed : Data → List Data
listed null = null ∷ []
listed (boolean b) = boolean b ∷ []
listed (number n) = number n ∷ []
listed (string s) = string s ∷ []
listed (array ds) = list_of ds
listed (object ms) = object ms ∷ []

-- each element passes the test
abbrev pub each : {A : Type 0} → (A → Bool) → List A → Bool
each test [] = true
each test (x ∷ xs) = if test x then each test xs else false

-- ---- what values are

abbrev pub is_text : Data → Bool
is_text d = is_some (as_str d)

abbrev pub is_flag : Data → Bool
is_flag d = is_some (as_bool d)

-- a whole number from -128 to 127
abbrev pub in_range : ℤ → Option ℤ
in_range z = if int_le (negsuc 127) z && int_le z (pos 127) then Some z else None

abbrev pub vote_in : Data → Option ℤ
vote_in d = option_and_then in_range (option_and_then as_i64 (as_number d))

abbrev pub is_vote : Data → Bool
is_vote d = is_some (vote_in d)

abbrev pub texts_of : List Data → List (List ℕ)
texts_of ds = filter_map as_str ds

abbrev pub votes_of : List Data → List ℤ
votes_of ds = filter_map vote_in ds

-- ---- the value under a key

abbrev pub text_under : List ℕ → Members → Option (List ℕ)
text_under key ms = option_and_then as_str (get_member key ms)

abbrev pub flag_under : List ℕ → Members → Option Bool
flag_under key ms = option_and_then as_bool (get_member key ms)

abbrev pub object_under : List ℕ → Members → Option Members
object_under key ms = option_and_then as_object (get_member key ms)

-- one value or a list under a key, and nothing where the key is absent
abbrev pub listed_or_none : Option Data → List Data
listed_or_none None = []
listed_or_none (Some d) = listed d

-- ---- what objects set

-- each key of an approval but `username` is a label, which is compared in lower case
abbrev pub labels_of : Members → List LabelRule
labels_of no_members = []
labels_of (member key d ms) =
    if bytes_eq key (codes "username") then labels_of ms else record {
      label = map to_ascii_lowercase key;
      values = votes_of (listed d);
    } ∷ labels_of ms

abbrev pub pattern_of : Members → PatternRule
pattern_of ms = record { username = text_under (codes "username") ms; labels = labels_of ms }

abbrev pub patterns_of : List Data → List PatternRule
patterns_of ds = filter_map (λ d. option_map pattern_of (as_object d)) ds

abbrev pub conditions_of : Members → SideRules
conditions_of ms = record {
  is_open = flag_under (codes "open") ms;
  is_current = flag_under (codes "current-patchset") ms;
  status = option_map (λ d. texts_of (listed d)) (get_member (codes "status") ms);
  approvals = patterns_of (listed_or_none (get_member (codes "approval") ms));
}

-- the connection is `gerrit` where none is named
abbrev pub connection_of : Members → List ℕ
connection_of ms = unwrap_or (text_under (codes "connection") ms) (codes "gerrit")

-- a side's conditions are under the connection's name
abbrev pub side_of : List ℕ → Members → SideRules
side_of key ms =
    conditions_of (unwrap_or (option_and_then (object_under (connection_of ms)) (object_under key ms)) no_members)

-- the bases are the texts of a list, which `Bases::new` accepts
pub record HasBases (ms : Members) (bases : List (List ℕ)) : Type 0 where
  pub items : Items
  pub list : get_member (codes "bases") ms ≡ Some (array items)
  pub texts : each is_text (list_of items) ≡ true
  pub same : bases ≡ texts_of (list_of items)
  pub good : AreBases bases

abbrev pub gate_of : Members → List (List ℕ) → GateRules
gate_of ms bases = record {
  bases = bases;
  connection = connection_of ms;
  cycles = unwrap_or (flag_under (codes "allow-circular-dependencies") ms) false;
  require = side_of (codes "require") ms;
  reject = side_of (codes "reject") ms;
}
