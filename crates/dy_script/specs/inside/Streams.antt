-- What the tokens of a script say, command by command, where its commands stand last.
use Rattle.std.specs.Prelude.{◌≡◌, ◌<◌, ◌≤◌, ℕ, List, [], ◌∷◌, ◌++◌, length, codes, true, Ok, ⊤}
use Rattle.std.specs.Borrow.{Bor}
use Rattle.std.specs.declared.alloc.Global.{Global}
use Rattle.json.specs.Json as json
use Rattle.json.specs.Token.{Token}
use Rattle.json.specs.Tree.{json_tokens, items_tokens, depth, items_depth}
use Rattle.json.specs.Value.{value_view}
use Rattle.json.specs.Value as json_value
use Rattle.json.specs.declared.value.Value.{Value}
use Rattle.serde_json.specs.Data.{object}
use Rattle.dy_script.specs.Orders.{CommandParts, command_of}
use Rattle.dy_script.specs.Reading.{ScriptParts, commands_given, script_of}
use Rattle.dy_script.specs.inside.Documents.{data_in, items_in, members_view}
use Rattle.dy_script.specs.inside.Documents.{in_range, items_in_range, members_in_range}

-- a member of an object, and tokens, as `json` reads them
abbrev pub Entry : Type 0
Entry = Bor (List ℕ) × Value Global

abbrev pub Tokens : Type 0
Tokens = List Token

-- the value's tokens stand in front, and it nests at most so deep
pub record IsRead (most : ℕ) (old : Tokens) (value : json.Json) (new : Tokens) : Type 0 where
  pub spelled : old ≡ json_tokens value ++ new
  pub shallow : depth value ≤ most
  pub shorter : length new < length old

-- the tokens of the members, each behind its key
abbrev pub entries_tokens : List Entry → List Token
entries_tokens [] = []
entries_tokens (m ∷ ms) = Token.key m.0.now ∷ (json_tokens (value_view m.1) ++ entries_tokens ms)

-- the members nest at most so deep
abbrev pub AreShallow : ℕ → List Entry → Type 0
AreShallow most [] = ⊤
AreShallow most (m ∷ ms) = (depth (value_view m.1) ≤ most) × AreShallow most ms

-- an object opens, and has these members before a list that is named `run`
pub record OpensScript (old : Tokens) (own : List Entry) (new : Tokens) : Type 0 where
  pub spelled : old ≡ Token.begin_object
      ∷ (entries_tokens own ++ Token.key (codes "run") ∷ Token.begin_array ∷ new)
  pub shallow : AreShallow 126 own

-- the script of these members alone
pub record IsOwnScript (own : List Entry) (script : ScriptParts) : Type 0 where
  pub ranged : members_in_range (json_value.members_view own) ≡ true
  pub says : script_of (object (members_view own)) ≡ Ok script

-- command k stands in front
pub record IsCommand (nodes k : ℕ) (old : Tokens) (command : CommandParts) (new : Tokens)
    : Type 0 where
  pub value : json.Json
  pub read : IsRead 125 old value new
  pub ranged : in_range value ≡ true
  pub says : command_of nodes k (data_in value) ≡ Ok command

-- the commands stand in front, and the end of their list
pub record AreCommands (nodes : ℕ) (old : Tokens) (run : List CommandParts) (new : Tokens)
    : Type 0 where
  pub list : json.Items
  pub spelled : old ≡ items_tokens list ++ new
  pub shallow : items_depth list ≤ 125
  pub ranged : items_in_range list ≡ true
  pub says : commands_given nodes (items_in list) ≡ Ok run

-- the commands are all that is left of the script
abbrev pub IsRun : ℕ → Tokens → List CommandParts → Type 0
IsRun nodes old run = AreCommands nodes old run (Token.end_object ∷ [])
