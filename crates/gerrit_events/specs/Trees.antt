-- The data that a tree of JSON stands for: a number has its value, and of the members under one key the last one
-- counts. A number that is too large for any value is `null` here; a text that has one isn't read.
use Rattle.std.specs.Prelude.{Bool, true, ◌&&◌, Option, Some, None, is_some}
use Rattle.json.specs.Json as json
use Rattle.json.specs.Value.{value_view}
use Rattle.json.specs.declared.value.Value.{Value}
use Rattle.serde_json.specs.Data.{Num, Data, null, boolean, number, string, array, object, Items, no_items, item}
use Rattle.serde_json.specs.Data.{Members, no_members, put}
use Rattle.serde_json.specs.Read.{number_of}

abbrev pub number_data : Option Num → Data
number_data None = null
number_data (Some n) = number n

abbrev mutual
  pub data_of : json.Json → Data
  data_of json.null = null
  data_of (json.boolean b) = boolean b
  data_of (json.number s) = number_data (number_of s)
  data_of (json.string s) = string s
  data_of (json.array js) = array (items_data js)
  data_of (json.object ms) = object (members_data ms no_members)

  pub items_data : json.Items → Items
  items_data json.no_items = no_items
  items_data (json.item j js) = item (data_of j) (items_data js)

  -- the members go in one after another, so the last value of a key stays
  pub members_data : json.Members → Members → Members
  members_data json.no_members found = found
  members_data (json.member k j ms) found = members_data ms (put k (data_of j) found)

abbrev pub data_in : {A : Type 0} → Value A → Data
data_in v = data_of (value_view v)

-- each number has a value
abbrev mutual
  pub has_values : json.Json → Bool
  has_values json.null = true
  has_values (json.boolean b) = true
  has_values (json.number s) = is_some (number_of s)
  has_values (json.string s) = true
  has_values (json.array js) = items_have_values js
  has_values (json.object ms) = members_have_values ms

  pub items_have_values : json.Items → Bool
  items_have_values json.no_items = true
  items_have_values (json.item j js) = has_values j && items_have_values js

  pub members_have_values : json.Members → Bool
  members_have_values json.no_members = true
  members_have_values (json.member k j ms) = has_values j && members_have_values ms
