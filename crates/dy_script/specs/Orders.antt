-- What command a JSON value says, on a ring of so many nodes, and the first fault of one that says
-- none.
use Rattle.std.specs.Prelude.{ℕ, nat_lt, List, [], ◌∷◌, codes, bytes_eq}
use Rattle.std.specs.Prelude.{if◌then◌else◌, Option, Some, None, option_map, option_and_then}
use Rattle.std.specs.Prelude.{Result, Ok, Err}
use Rattle.std.specs.Result.{result_ok}
use Rattle.std.specs.Cow.{cow_slice_items}
use Rattle.hex.specs.Hex.{decode_of}
use Rattle.serde_json.specs.Data.{Data}
use Rattle.serde_json.specs.Find.{get as member_of}
use Rattle.dy_dots.specs.declared.faults.Fault.{Fault}
use Rattle.dy_dots.specs.declared.faults.Fault.TheVariants.{ScriptSyntax, UnknownCommand}
use Rattle.dy_script.specs.declared.commands.Command.{Command}
use Rattle.dy_script.specs.declared.commands.Command.TheVariants as command
use Rattle.dy_modes.specs.declared.modes.Mode.{Mode}
use Rattle.dy_modes.specs.Modes.{mode_named}
use Rattle.dy_script.specs.declared.commands.Write.{Write}
use Rattle.dy_script.specs.declared.scripts.TheConstants.{MAX_SCRIPT_SESSIONS}
use Rattle.dy_script.specs.Members.{◌>>=◌, need, allow_only, as_whole}
use Rattle.dy_script.specs.Members.{text, optional_text, optional_small}

-- what a put and a delete say beside the value
pub record WriteParts : Type 0 where
  pub key : List ℕ
  pub context : Option (List ℕ)
  pub session : ℕ
  pub w : Option ℕ

-- a command, its texts as their bytes
pub data CommandParts : Type 0 where
  puts : WriteParts → List ℕ → CommandParts
  deletes : WriteParts → CommandParts
  gets : List ℕ → ℕ → CommandParts
  downs : ℕ → CommandParts
  ups : ℕ → CommandParts
  sets_mode : ℕ → Mode → CommandParts
  delivers : ℕ → CommandParts
  hands_off : ℕ → CommandParts
  shows : ℕ → List ℕ → CommandParts

abbrev pub write_parts : Write → WriteParts
write_parts x = record {
  key = x.key.now;
  context = option_map (λ s. s.now) x.context;
  session = x.session;
  w = x.w;
}

abbrev pub command_parts : Command → CommandParts
command_parts (command.Put write value) = puts (write_parts write) (cow_slice_items value)
command_parts (command.Delete write) = deletes (write_parts write)
command_parts (command.Get key session) = gets key.now session
command_parts (command.Down node) = downs node
command_parts (command.Up node) = ups node
command_parts (command.SetMode node mode) = sets_mode node mode
command_parts (command.Deliver node) = delivers node
command_parts (command.Handoff node) = hands_off node
command_parts (command.Show node key) = shows node key.now

-- a node is a whole number below the number of nodes
unfoldable pub node_named : ℕ → ℕ → Data → Result ℕ Fault
node_named nodes k d =
    need k (option_and_then (λ n. if nat_lt n nodes then Some n else None)
    (option_and_then as_whole (member_of (codes "node") d)))

-- a command that names a node alone
unfoldable pub lone_node : ℕ → ℕ → Data → Result ℕ Fault
lone_node nodes k d = do
  _ ← allow_only k (codes "do" ∷ codes "node" ∷ []) d
  node_named nodes k d

-- the mode that the command names
unfoldable pub mode_of : ℕ → Data → Result Mode Fault
mode_of k d = do
  word ← text k (codes "mode") d
  need k (mode_named word)

-- a session is below their greatest number, and 0 where none is named
abbrev pub as_session : ℕ → Option ℕ → Result ℕ Fault
as_session k None = Ok 0
as_session k (Some n) = if nat_lt n MAX_SCRIPT_SESSIONS then Ok n else Err (ScriptSyntax k)

unfoldable pub session_of : ℕ → Data → Result ℕ Fault
session_of k d = do
  session ← optional_small k (codes "session") d
  as_session k session

-- the bytes of hexadecimal digits
unfoldable pub bytes_of : ℕ → List ℕ → Result (List ℕ) Fault
bytes_of k digits = need k (result_ok (decode_of digits))

-- a value is a text or hexadecimal digits, and not both
unfoldable pub value_given : ℕ → Option (List ℕ) → Option (List ℕ) → Result (List ℕ) Fault
value_given k (Some letters) None = Ok letters
value_given k None (Some digits) = bytes_of k digits
value_given k None None = Err (ScriptSyntax k)
value_given k (Some letters) (Some digits) = Err (ScriptSyntax k)

unfoldable pub value_of : ℕ → Data → Result (List ℕ) Fault
value_of k d = do
  letters ← optional_text k (codes "value") d
  digits ← optional_text k (codes "valuehex") d
  value_given k letters digits

unfoldable pub write_of : ℕ → Data → Result WriteParts Fault
write_of k d = do
  session ← session_of k d
  w ← optional_small k (codes "w") d
  context ← optional_text k (codes "context") d
  key ← text k (codes "key") d
  Ok (record { key = key; context = context; session = session; w = w })

-- the members of a put
unfoldable pub put_names : List (List ℕ)
put_names =
    codes "do" ∷ codes "key" ∷ codes "value" ∷ codes "valuehex"
    ∷ codes "context" ∷ codes "session" ∷ codes "w" ∷ []

unfoldable pub put_of : ℕ → Data → Result CommandParts Fault
put_of k d = do
  _ ← allow_only k put_names d
  value ← value_of k d
  write ← write_of k d
  Ok (puts write value)

-- the members of a delete
abbrev pub delete_names : List (List ℕ)
delete_names =
    codes "do" ∷ codes "key" ∷ codes "context" ∷ codes "session" ∷ codes "w" ∷ []

unfoldable pub delete_of : ℕ → Data → Result CommandParts Fault
delete_of k d = do
  _ ← allow_only k delete_names d
  write ← write_of k d
  Ok (deletes write)

unfoldable pub get_of : ℕ → Data → Result CommandParts Fault
get_of k d = do
  _ ← allow_only k (codes "do" ∷ codes "key" ∷ codes "session" ∷ []) d
  session ← session_of k d
  key ← text k (codes "key") d
  Ok (gets key session)

unfoldable pub set_mode_of : ℕ → ℕ → Data → Result CommandParts Fault
set_mode_of nodes k d = do
  _ ← allow_only k (codes "do" ∷ codes "node" ∷ codes "mode" ∷ []) d
  node ← node_named nodes k d
  mode ← mode_of k d
  Ok (sets_mode node mode)

unfoldable pub show_of : ℕ → ℕ → Data → Result CommandParts Fault
show_of nodes k d = do
  _ ← allow_only k (codes "do" ∷ codes "node" ∷ codes "key" ∷ []) d
  node ← node_named nodes k d
  key ← text k (codes "key") d
  Ok (shows node key)

-- a command that names a node alone, by its word
unfoldable pub at_node : ℕ → ℕ → Data → List ℕ → Result CommandParts Fault
at_node nodes k d word =
    if bytes_eq word (codes "down") then lone_node nodes k d >>= (λ node. Ok (downs node))
    else if bytes_eq word (codes "up") then lone_node nodes k d >>= (λ node. Ok (ups node))
    else if bytes_eq word (codes "deliver")
    then lone_node nodes k d >>= (λ node. Ok (delivers node))
    else if bytes_eq word (codes "handoff")
    then lone_node nodes k d >>= (λ node. Ok (hands_off node))
    else Err (UnknownCommand k)

-- the command of this word; a word that names none is a fault of its own
unfoldable pub command_named : ℕ → ℕ → Data → List ℕ → Result CommandParts Fault
command_named nodes k d word =
    if bytes_eq word (codes "put") then put_of k d
    else if bytes_eq word (codes "delete") then delete_of k d
    else if bytes_eq word (codes "get") then get_of k d
    else if bytes_eq word (codes "fault") then set_mode_of nodes k d
    else if bytes_eq word (codes "show") then show_of nodes k d
    else at_node nodes k d word

-- command k
unfoldable pub command_of : ℕ → ℕ → Data → Result CommandParts Fault
command_of nodes k d = do
  word ← text k (codes "do") d
  command_named nodes k d word
