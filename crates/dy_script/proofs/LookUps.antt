-- What is looked up in a JSON value, beside its data.
use Rattle.std.proofs.Common.{◌≡◌, ℕ, List, [], ◌∷◌, ◌++◌, Bool, true, false, cond, ◌&&◌, Option, Some, None, option_map, option_and_then, is_some, bytes_eq, Bor, Global, Vec, refl, sym, ap, ◌∙◌}
use Rattle.std.proofs.lemmas.Slice.Eq.{bytes_eq-Decides}
use Rattle.json.specs.Json as json
use Rattle.json.specs.Find as find
use Rattle.json.specs.Find.{later_or}
use Rattle.json.specs.Value.{value_view, members_view as members_of}
use Rattle.json.proofs.Trees.{view-Object}
use Rattle.json.specs.declared.value.Value.{Value}
use Rattle.json.specs.declared.value.Value.TheVariants.{Object}
use Rattle.serde_json.specs.Data.{Num, Data, number, array, object, item, Members, no_members, put}
use Rattle.serde_json.specs.Find.{get as member_of, get_member, as_str, as_bool, as_number}
use Rattle.serde_json.specs.Read.{number_of, of_json, of_items, of_members}
use Rattle.serde_json.proofs.Views.{get_member-put, get_member-put_other}
use Rattle.dy_script.specs.inside.Documents.{number_data, data_in, items_in, members_in, in_range, items_in_range, members_in_range, view}

-- ---- a value is converted where its numbers are in range

number_converted : (o : Option Num) → option_map number o ≡ cond (is_some o) (Some (number_data o)) None
number_converted None = refl
number_converted (Some n) = refl

under : {A B : Type 0} (f : A → B) (b : Bool) (x : A) → option_map f (cond b (Some x) None) ≡ cond b (Some (f x)) None
under f true x = refl
under f false x = refl

both : {A B C : Type 0} (f : A → B → C) (a b : Bool) (x : A) (y : B)
    → option_and_then (λ d. option_map (f d) (cond b (Some y) None)) (cond a (Some x) None) ≡ cond (a && b) (Some (f x y)) None
both f true true x y = refl
both f true false x y = refl
both f false b x y = refl

onward : {A B : Type 0} (f : A → Option B) (a b : Bool) (x : A) (y : B) → f x ≡ cond b (Some y) None
    → option_and_then f (cond a (Some x) None) ≡ cond (a && b) (Some y) None
onward f true b x y e = e
onward f false b x y e = refl

mutual
  pub converted : (j : json.Json) → of_json j ≡ cond (in_range j) (Some (data_in j)) None
  converted json.null = refl
  converted (json.boolean b) = refl
  converted (json.number s) = number_converted (number_of s)
  converted (json.string s) = refl
  converted (json.array js) = ap (option_map array) (items_converted js) ∙ under array (items_in_range js) (items_in js)
  converted (json.object ms) =
      ap (option_map object) (members_converted ms no_members) ∙ under object (members_in_range ms) (members_in ms no_members)

  items_converted : (js : json.Items) → of_items js ≡ cond (items_in_range js) (Some (items_in js)) None
  items_converted json.no_items = refl
  items_converted (json.item j js) =
      rw (converted j, items_converted js) (both item (in_range j) (items_in_range js) (data_in j) (items_in js))

  members_converted : (ms : json.Members) (found : Members)
      → of_members ms found ≡ cond (members_in_range ms) (Some (members_in ms found)) None
  members_converted json.no_members found = refl
  members_converted (json.member k j ms) found =
      ap (option_and_then (λ d. of_members ms (put k d found))) (converted j)
      ∙ onward (λ d. of_members ms (put k d found)) (in_range j) (members_in_range ms) (data_in j) (members_in ms (put k (data_in j) found))
      (members_converted ms (put k (data_in j) found))

-- ---- look-ups

abbrev later : Option Data → Option Data → Option Data
later None earlier = earlier
later (Some d) earlier = Some d

put_found : (b : Bool) (name k : List ℕ) (d : Data) (found : Members) → bytes_eq k name ≡ b
    → get_member name (put k d found) ≡ later (cond b (Some d) None) (get_member name found)
put_found true name k d found e =
    let same : k ≡ name = (bytes_eq-Decides k name).0 e in
    rw (sym same) (get_member-put k d found)
put_found false name k d found e =
    get_member-put_other name k d found (λ same. let s = (bytes_eq-Decides k name).1 (sym same) in cc)

later_twice : (b : Bool) (j : json.Json) (o : Option json.Json) (p : Option Data)
    → later (option_map data_in o) (later (cond b (Some (data_in j)) None) p) ≡ later (option_map data_in (later_or o (cond b (Some j) None))) p
later_twice true j None p = refl
later_twice false j None p = refl
later_twice b j (Some i) p = refl

members_found : (name : List ℕ) (ms : json.Members) (found : Members)
    → get_member name (members_in ms found) ≡ later (option_map data_in (find.get_member name ms)) (get_member name found)
members_found name json.no_members found = refl
members_found name (json.member k j ms) found =
    members_found name ms (put k (data_in j) found)
    ∙ ap (later (option_map data_in (find.get_member name ms))) (put_found (bytes_eq k name) name k (data_in j) found refl)
    ∙ later_twice (bytes_eq k name) j (find.get_member name ms) (get_member name found)

first_only : (o : Option Data) → later o None ≡ o
first_only None = refl
first_only (Some d) = refl

number_has : {A : Type 0} (f : Data → Option A) → f (number_data None) ≡ None → ((n : Num) → f (number n) ≡ None) → (o : Option Num) → f (number_data o) ≡ None
number_has f e h None = e
number_has f e h (Some n) = h n

member_in : (name : List ℕ) (j : json.Json) → member_of name (data_in j) ≡ option_map data_in (find.get name j)
member_in name json.null = refl
member_in name (json.boolean b) = refl
member_in name (json.number s) = number_has (member_of name) refl (λ n. refl) (number_of s)
member_in name (json.string s) = refl
member_in name (json.array js) = refl
member_in name (json.object ms) = members_found name ms no_members ∙ first_only _

last_or : (b : Bool) (x : json.Json) (o p : Option json.Json) → later_or (cond b (Some x) o) p ≡ cond b (Some x) (later_or o p)
last_or true x o p = refl
last_or false x o p = refl

-- a member more is found before those in front of it
pub last_found : (name : List ℕ) (ms : List (Bor (List ℕ) × Value Global)) (k : Bor (List ℕ)) (v : Value Global)
    → find.get_member name (members_of (ms ++ (k, v) ∷ [])) ≡ cond (bytes_eq k.now name) (Some (value_view v)) (find.get_member name (members_of ms))
last_found name [] k v = refl
last_found name (m ∷ ms) k v =
    let here = cond (bytes_eq m.0.now name) (Some (value_view m.1)) None in
    ap (λ o. later_or o here) (last_found name ms k v) ∙ last_or (bytes_eq k.now name) (value_view v) (find.get_member name (members_of ms)) here

-- the members of an object are looked up
pub object_found : (name : List ℕ) (ms : Vec (Bor (List ℕ) × Value Global) Global) → find.get name (value_view (Object ms)) ≡ find.get_member name (members_of ms.items)
object_found name ms = ap (find.get name) (view-Object ms)

seen_both : (o : Option (Value Global)) → option_map view o ≡ option_map data_in (option_map value_view o)
seen_both None = refl
seen_both (Some v) = refl

-- what was taken out of the tree is what the data has
pub member_taken : (o : Option (Value Global)) (name : List ℕ) (j : json.Json) → option_map value_view o ≡ find.get name j
    → option_map view o ≡ member_of name (data_in j)
member_taken o name j e = seen_both o ∙ ap (option_map data_in) e ∙ sym (member_in name j)

seen_twice : (r : Option (Bor (Value Global))) → option_map (λ v. view v.now) r ≡ option_map data_in (option_map (λ v. value_view v.now) r)
seen_twice None = refl
seen_twice (Some v) = refl

-- what the tree's look-up finds is what the data's finds
pub member_seen : (r : Option (Bor (Value Global))) (name : List ℕ) (j : json.Json) → option_map (λ v. value_view v.now) r ≡ find.get name j
    → option_map (λ v. view v.now) r ≡ member_of name (data_in j)
member_seen r name j e = seen_twice r ∙ ap (option_map data_in) e ∙ sym (member_in name j)

pub text_in : (j : json.Json) → as_str (data_in j) ≡ find.as_str j
text_in json.null = refl
text_in (json.boolean b) = refl
text_in (json.number s) = number_has as_str refl (λ n. refl) (number_of s)
text_in (json.string s) = refl
text_in (json.array js) = refl
text_in (json.object ms) = refl

pub flag_in : (j : json.Json) → as_bool (data_in j) ≡ find.as_bool j
flag_in json.null = refl
flag_in (json.boolean b) = refl
flag_in (json.number s) = number_has as_bool refl (λ n. refl) (number_of s)
flag_in (json.string s) = refl
flag_in (json.array js) = refl
flag_in (json.object ms) = refl

number_back : (o : Option Num) → as_number (number_data o) ≡ o
number_back None = refl
number_back (Some n) = refl

pub number_in : (j : json.Json) → as_number (data_in j) ≡ option_and_then number_of (find.as_number j)
number_in json.null = refl
number_in (json.boolean b) = refl
number_in (json.number s) = number_back (number_of s)
number_in (json.string s) = refl
number_in (json.array js) = refl
number_in (json.object ms) = refl
