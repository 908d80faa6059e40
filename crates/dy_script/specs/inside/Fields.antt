-- The members of a command, each a text or a whole number, and the data that they stand for.
use Rattle.std.specs.Prelude.{◌≡◌, ℕ, List, [], ◌∷◌, ◌++◌, codes, true, get_or}
use Rattle.std.specs.Prelude.{Option, Some, None, option_and_then, nat_lt, if◌then◌else◌, ⊤}
use Rattle.json.specs.Json as json
use Rattle.json.specs.Token.{Token}
use Rattle.json.specs.Tree.{json_tokens, members_tokens, depth, members_depth}
use Rattle.serde_json.specs.Data.{Data, null, string, number, unsigned, object}
use Rattle.serde_json.specs.Data.{Members, no_members, member}
use Rattle.serde_json.specs.Find.{as_str}
use Rattle.dy_script.specs.Members.{as_whole}
use Rattle.dy_script.specs.declared.orders.Name.{Name}
use Rattle.dy_script.specs.declared.orders.Name.TheVariants as name
use Rattle.dy_script.specs.declared.fields.Field.{Field}
use Rattle.dy_script.specs.declared.fields.Field.TheVariants as field
use Rattle.dy_script.specs.declared.fields.Fields.{Fields}
use Rattle.dy_script.specs.declared.sources.Source.{Source}
use Rattle.dy_script.specs.declared.sources.Source.TheVariants as source
use Rattle.dy_script.specs.inside.Documents.{data_in, in_range, members_in, members_in_range, view}

-- ---- names

-- the names that members of commands have, in the order of an object's data
abbrev pub all_names : List (List ℕ)
all_names =
    codes "context" ∷ codes "do" ∷ codes "key" ∷ codes "mode" ∷ codes "node"
    ∷ codes "session" ∷ codes "value" ∷ codes "valuehex" ∷ codes "w" ∷ []

-- a name's place among them
abbrev pub place_of : Name → ℕ
place_of name.Context = 0
place_of name.Do = 1
place_of name.Key = 2
place_of name.Mode = 3
place_of name.Node = 4
place_of name.Session = 5
place_of name.Value = 6
place_of name.Valuehex = 7
place_of name.W = 8

abbrev pub name_at : ℕ → List ℕ
name_at place = get_or all_names place []

abbrev pub name_text : Name → List ℕ
name_text name = name_at (place_of name)

-- ---- what a member says

abbrev pub field_data : Field → Data
field_data (field.Text s) = string s.now
field_data (field.Whole n) = number (unsigned n)
field_data field.Other = null

-- the same, as far as a command may ask for it
abbrev pub text_in : Field → Option (List ℕ)
text_in (field.Text s) = Some s.now
text_in (field.Whole n) = None
text_in field.Other = None

abbrev pub whole_in : Field → Option ℕ
whole_in (field.Text s) = None
whole_in (field.Whole n) = Some n
whole_in field.Other = None

abbrev pub small_in : Field → Option ℕ
small_in f = option_and_then (λ n. if nat_lt n 256 then Some n else None) (whole_in f)

-- the field says of the data what a command may ask for
abbrev pub Tells : Option Field → Option Data → Type 0
Tells None None = ⊤
Tells None (Some d) = ⊥
Tells (Some f) None = ⊥
Tells (Some f) (Some d) = (as_str d ≡ text_in f) × (as_whole d ≡ whole_in f)

-- ---- an object of fields

-- what stands at each name's place
abbrev pub filled : List (List ℕ) → List (Option Field) → Members
filled [] fs = no_members
filled (n ∷ ns) [] = no_members
filled (n ∷ ns) (None ∷ fs) = filled ns fs
filled (n ∷ ns) (Some f ∷ fs) = member n (field_data f) (filled ns fs)

abbrev pub members_told : Fields → Members
members_told fields = filled all_names fields.places

abbrev pub source_data : Source → Data
source_data (source.Tree value) = view value.now
source_data (source.Told fields) = object (members_told fields.now)

-- ---- what was read

-- the field's tokens stand in front
pub record IsField (old : List Token) (f : Field) (new : List Token) : Type 0 where
  pub value : json.Json
  pub spelled : old ≡ json_tokens value ++ new
  pub flat : depth value ≡ 0
  pub ranged : in_range value ≡ true
  pub says : data_in value ≡ field_data f

-- an object of these members stands in front
pub record AreTold (old : List Token) (told : Members) (new : List Token) : Type 0 where
  pub members : json.Members
  pub spelled : old ≡ Token.begin_object ∷ (members_tokens members ++ new)
  pub flat : members_depth members ≡ 0
  pub ranged : members_in_range members ≡ true
  pub says : members_in members no_members ≡ told
