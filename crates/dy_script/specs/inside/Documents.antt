-- The data of a JSON value as `json` reads it. A number out of range, which no script has, is null.
use Rattle.std.specs.Prelude.{ℕ, ◌&&◌, List, Bool, true, Option, Some, None, is_some}
use Rattle.std.specs.Prelude.{option_and_then}
use Rattle.std.specs.Borrow.{Bor}
use Rattle.std.specs.declared.alloc.Global.{Global}
use Rattle.json.specs.Json as json
use Rattle.json.specs.Lex.{tokens}
use Rattle.json.specs.Value.{value_view}
use Rattle.json.specs.Value as json_value
use Rattle.json.specs.declared.error.Error.{Error}
use Rattle.json.specs.declared.error.Error.TheVariants as error
use Rattle.json.specs.declared.value.Value.{Value}
use Rattle.serde_json.specs.Data.{Num, Data, null, boolean, number, string, array, object}
use Rattle.serde_json.specs.Data.{Items, no_items, item, Members, no_members, put}
use Rattle.serde_json.specs.Read.{number_of, max_depth}
use Rattle.dy_dots.specs.declared.faults.Fault.{Fault}
use Rattle.dy_dots.specs.declared.faults.Fault.TheVariants.{ScriptSyntax, OutOfMemory}

abbrev pub number_data : Option Num → Data
number_data None = null
number_data (Some n) = number n

abbrev mutual
  pub data_in : json.Json → Data
  data_in json.null = null
  data_in (json.boolean b) = boolean b
  data_in (json.number s) = number_data (number_of s)
  data_in (json.string s) = string s
  data_in (json.array js) = array (items_in js)
  data_in (json.object ms) = object (members_in ms no_members)

  pub items_in : json.Items → Items
  items_in json.no_items = no_items
  items_in (json.item j js) = item (data_in j) (items_in js)

  -- the members go in one after another, so the last value of a name stays
  pub members_in : json.Members → Members → Members
  members_in json.no_members found = found
  members_in (json.member k j ms) found = members_in ms (put k (data_in j) found)

-- each number is in range
abbrev mutual
  pub in_range : json.Json → Bool
  in_range json.null = true
  in_range (json.boolean b) = true
  in_range (json.number s) = is_some (number_of s)
  in_range (json.string s) = true
  in_range (json.array js) = items_in_range js
  in_range (json.object ms) = members_in_range ms

  pub items_in_range : json.Items → Bool
  items_in_range json.no_items = true
  items_in_range (json.item j js) = in_range j && items_in_range js

  pub members_in_range : json.Members → Bool
  members_in_range json.no_members = true
  members_in_range (json.member k j ms) = in_range j && members_in_range ms

-- the value that a text is, nested as deep as a script may
abbrev pub document : List ℕ → Option json.Json
document text =
    option_and_then (λ p. json.if_last p.0 p.1) (json.value max_depth (tokens text))

-- the fault of a text that was not read
abbrev pub fault_of : Error → Fault
fault_of error.Invalid = ScriptSyntax 0
fault_of error.OutOfMemory = OutOfMemory
fault_of error.TooLong = ScriptSyntax 0
fault_of error.DuplicateKey = ScriptSyntax 0

-- the data that a tree stands for
abbrev pub view : Value Global → Data
view v = data_in (value_view v)

abbrev pub items_view : List (Value Global) → Items
items_view vs = items_in (json_value.items_view vs)

abbrev pub members_view : List (Bor (List ℕ) × Value Global) → Members
members_view ms = members_in (json_value.members_view ms) no_members
