-- What script a JSON value is, and the first fault of one that is none.
use Rattle.std.specs.Prelude.{ℕ, ◌+◌, ◌&&◌, nat_le, List, [], ◌∷◌, length, map, codes, Bool}
use Rattle.std.specs.Prelude.{if◌then◌else◌, Option, Some, None, option_and_then}
use Rattle.std.specs.Prelude.{Result, Ok, Err, vec_items}
use Rattle.std.specs.Str.{is_utf8}
use Rattle.serde_json.specs.Data.{Data, Items}
use Rattle.serde_json.specs.Events.{items_len}
use Rattle.serde_json.specs.Find.{get as member_of, as_str, as_array}
use Rattle.serde_json.specs.Read.{read as read_text}
use Rattle.dy_dots.specs.declared.faults.Fault.{Fault}
use Rattle.dy_dots.specs.declared.faults.Fault.TheVariants.{ScriptSyntax}
use Rattle.dy_siblings.specs.declared.keys.TheConstants.{MAX_KEY_BYTES}
use Rattle.dy_script.specs.declared.scripts.Layout.{Layout}
use Rattle.dy_script.specs.declared.scripts.Layout.TheVariants as layout
use Rattle.dy_script.specs.declared.scripts.Limits.{Limits}
use Rattle.dy_script.specs.declared.scripts.Script.{Script}
use Rattle.dy_script.specs.declared.scripts.TheConstants.{MAX_COMMANDS}
use Rattle.dy_script.specs.Members.{◌>>=◌, need, allow_only, small, flag, each_of}
use Rattle.dy_script.specs.Members.{optional_list, optional_whole}
use Rattle.dy_script.specs.Orders.{CommandParts, command_parts, command_of}
use Rattle.dy_script.specs.Tokens.{token_of}

-- each node's tokens, or the numbers that they are derived from
pub data LayoutParts : Type 0 where
  given : List (List ℕ) → LayoutParts
  derived : ℕ → ℕ → LayoutParts

-- a script, its texts as their bytes
pub record ScriptParts : Type 0 where
  pub n : ℕ
  pub r : ℕ
  pub w : ℕ
  pub layout : LayoutParts
  pub limits : Limits
  pub keys : List (List ℕ)
  pub settled : Bool
  pub run : List CommandParts

abbrev pub layout_parts : Layout → LayoutParts
layout_parts (layout.Tokens lists) = given (map vec_items lists.items)
layout_parts (layout.Derived nodes per_node) = derived nodes per_node

abbrev pub script_parts : Script → ScriptParts
script_parts s = record {
  n = s.n;
  r = s.r;
  w = s.w;
  layout = layout_parts s.layout;
  limits = s.limits;
  keys = s.keys.items;
  settled = s.settled;
  run = map command_parts s.run.items;
}

-- ---- the ring

-- how many nodes there are
abbrev pub node_count : LayoutParts → ℕ
node_count (given lists) = length lists
node_count (derived nodes per_node) = nodes

-- a token is a text that names a position
unfoldable pub token_at : ℕ → Data → Result ℕ Fault
token_at i d = need 0 (option_and_then token_of (as_str d))

unfoldable pub token_list : Items → Result (List ℕ) Fault
token_list texts = each_of token_at 0 texts

-- one node's tokens are a list of them
unfoldable pub tokens_at : ℕ → Data → Result (List ℕ) Fault
tokens_at i d = need 0 (as_array d) >>= token_list

unfoldable pub token_lists : Items → Result (List (List ℕ)) Fault
token_lists lists = each_of tokens_at 0 lists

unfoldable pub derived_of : Data → Result LayoutParts Fault
derived_of d = do
  _ ← allow_only 0 (codes "nodes" ∷ codes "per_node" ∷ []) d
  nodes ← small 0 (codes "nodes") d
  per_node ← small 0 (codes "per_node") d
  Ok (derived nodes per_node)

-- the tokens are given or derived, and not both
unfoldable pub layout_given : Option Items → Option Data → Result LayoutParts Fault
layout_given (Some lists) None = token_lists lists >>= (λ found. Ok (given found))
layout_given None (Some d) = derived_of d
layout_given None None = Err (ScriptSyntax 0)
layout_given (Some lists) (Some d) = Err (ScriptSyntax 0)

unfoldable pub tokens_given : Data → Result LayoutParts Fault
tokens_given d = do
  lists ← optional_list 0 (codes "tokens") d
  layout_given lists (member_of (codes "derived") d)

-- ---- the other members

-- the limits that are set, each a whole number
unfoldable pub limits_given : Option Data → Result Limits Fault
limits_given None = Ok (record { counter = None; versions = None; steps = None })
limits_given (Some d) = do
  _ ← allow_only 0 (codes "counter" ∷ codes "versions" ∷ codes "steps" ∷ []) d
  counter ← optional_whole 0 (codes "counter") d
  versions ← optional_whole 0 (codes "versions") d
  steps ← optional_whole 0 (codes "steps") d
  Ok (record { counter = counter; versions = versions; steps = steps })

unfoldable pub limits_of : Data → Result Limits Fault
limits_of d = limits_given (member_of (codes "limits") d)

-- a key has a byte, and their greatest number at most
unfoldable pub sized_key : List ℕ → Option (List ℕ)
sized_key letters =
    if nat_le 1 (length letters) && nat_le (length letters) MAX_KEY_BYTES
    then Some letters else None

unfoldable pub key_at : ℕ → Data → Result (List ℕ) Fault
key_at i d = need 0 (option_and_then sized_key (as_str d))

unfoldable pub keys_given : Option Items → Result (List (List ℕ)) Fault
keys_given None = Ok []
keys_given (Some list) = each_of key_at 0 list

unfoldable pub keys_of : Data → Result (List (List ℕ)) Fault
keys_of d = do
  list ← optional_list 0 (codes "keys") d
  keys_given list

-- the command at place i of the list is numbered from 1
abbrev pub command_at : ℕ → ℕ → Data → Result CommandParts Fault
command_at nodes i d = command_of nodes (i + 1) d

-- the commands are not more than their greatest number, which is judged before any of them
abbrev pub commands_given : ℕ → Items → Result (List CommandParts) Fault
commands_given nodes list =
    if nat_le (items_len list) MAX_COMMANDS
    then each_of (command_at nodes) 0 list else Err (ScriptSyntax 0)

unfoldable pub run_given : ℕ → Option Items → Result (List CommandParts) Fault
run_given nodes None = Ok []
run_given nodes (Some list) = commands_given nodes list

unfoldable pub run_of : ℕ → Data → Result (List CommandParts) Fault
run_of nodes d = do
  list ← optional_list 0 (codes "run") d
  run_given nodes list

-- ---- the script

-- the members of a script
unfoldable pub script_names : List (List ℕ)
script_names =
    codes "n" ∷ codes "r" ∷ codes "w" ∷ codes "tokens" ∷ codes "derived"
    ∷ codes "limits" ∷ codes "keys" ∷ codes "settled" ∷ codes "run" ∷ []

-- the script of a value: its own members first, and then its commands
unfoldable pub script_of : Data → Result ScriptParts Fault
script_of d = do
  _ ← allow_only 0 script_names d
  n ← small 0 (codes "n") d
  r ← small 0 (codes "r") d
  w ← small 0 (codes "w") d
  layout ← tokens_given d
  limits ← limits_of d
  keys ← keys_of d
  settled ← flag 0 (codes "settled") d
  run ← run_of (node_count layout) d
  Ok (record {
    n = n;
    r = r;
    w = w;
    layout = layout;
    limits = limits;
    keys = keys;
    settled = settled;
    run = run;
  })

-- the value of a text in UTF-8
unfoldable pub data_of : List ℕ → Option Data
data_of bytes = if is_utf8 bytes then read_text bytes else None

-- the script of a text
unfoldable pub script_of_text : List ℕ → Result ScriptParts Fault
script_of_text bytes = need 0 (data_of bytes) >>= script_of
