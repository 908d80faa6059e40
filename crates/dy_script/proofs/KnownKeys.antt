-- The names of an object's members, in their order, beside those of its data.
use Rattle.std.proofs.Common.{◌≡◌, ℕ, List, [], ◌∷◌, map, Bool, true, false, ◌&&◌, ◌||◌, Ordering, Less, Equal, Greater, Global, Bor, bytes_eq, nat_cmp, is_eq, refl, sym, ap, ◌∙◌}
use Rattle.std.proofs.lemmas.Map.Text.{is_eq-slice_cmp}
use Rattle.std.proofs.lemmas.Slice.Eq.{bytes_eq-Decides}
use Rattle.std.specs.Cmp.Lexicographic.{slice_cmp}
use Rattle.std.specs.List.{list_all, list_any}
use Rattle.std.specs.Ordering.{match_ordering}
use Rattle.json.specs.Value as json_value
use Rattle.json.specs.declared.value.Value.{Value}
use Rattle.serde_json.specs.Data.{Data, Members, no_members, member, put}
use Rattle.dy_script.specs.Members.{knows}
use Rattle.dy_script.specs.inside.Documents.{members_in, members_view}
use Rattle.dy_script.specs.inside.Keys.{is_one_of}

abbrev pub is_known : List (List ℕ) → List ℕ → Bool
is_known names key = list_any (λ known. bytes_eq known key) names

-- the names that are behind references are the names
pub one_of_names : (names : List (Bor (List ℕ))) (key : List ℕ) → is_one_of names key ≡ is_known (map (λ name. name.now) names) key
one_of_names [] key = refl
one_of_names (n ∷ names) key = ap (λ b. bytes_eq n.now key || b) (one_of_names names key)

twice : (a b : Bool) → (a && b) ≡ (a && (a && b))
twice true b = refl
twice false b = refl

swapped : (a b c : Bool) → (a && (b && c)) ≡ (b && (a && c))
swapped true true c = refl
swapped true false c = refl
swapped false true c = refl
swapped false false c = refl

put_at : (o : Ordering) (names : List (List ℕ)) (k l : List ℕ) (d e : Data) (ms : Members) → slice_cmp nat_cmp k l ≡ o
    → knows names (put k d ms) ≡ (is_known names k && knows names ms)
    → knows names (match_ordering o (member k d (member l e ms)) (member l d ms) (member l e (put k d ms)))
    ≡ (is_known names k && (is_known names l && knows names ms))
put_at Less names k l d e ms is rest = refl
put_at Equal names k l d e ms is rest =
    let same : k ≡ l = (bytes_eq-Decides k l).0 (sym (is_eq-slice_cmp k l) ∙ ap is_eq is) in
    rw same (twice (is_known names l) (knows names ms))
put_at Greater names k l d e ms is rest =
    ap (λ b. is_known names l && b) rest ∙ swapped (is_known names l) (is_known names k) (knows names ms)

pub knows_put : (names : List (List ℕ)) (k : List ℕ) (d : Data) (ms : Members)
    → knows names (put k d ms) ≡ (is_known names k && knows names ms)
knows_put names k d no_members = refl
knows_put names k d (member l e ms) = put_at _ names k l d e ms refl (knows_put names k d ms)

abbrev Entry : Type 0
Entry = Bor (List ℕ) × Value Global

moved : (a b c : Bool) → (b && (a && c)) ≡ ((a && b) && c)
moved true b c = refl
moved false true c = refl
moved false false c = refl

knows_all : (names : List (Bor (List ℕ))) (es : List Entry) (found : Members)
    → knows (map (λ name. name.now) names) (members_in (json_value.members_view es) found)
    ≡ (list_all (λ m. is_one_of names m.0.now) es && knows (map (λ name. name.now) names) found)
knows_all names [] found = refl
knows_all names (e ∷ es) found =
    let known = map (λ (name : Bor (List ℕ)). name.now) names in
    knows_all names es _ ∙ ap (λ b. list_all (λ m. is_one_of names m.0.now) es && b) (knows_put known e.0.now _ found ∙ ap (λ b. b && knows known found) (sym (one_of_names names e.0.now)))
    ∙ moved (is_one_of names e.0.now) (list_all (λ m. is_one_of names m.0.now) es) (knows known found)

all_of : (b : Bool) → (b && true) ≡ b
all_of true = refl
all_of false = refl

-- the members have the names alone where the data's members do
pub knows_keys : (names : List (Bor (List ℕ))) (es : List Entry)
    → list_all (λ m. is_one_of names m.0.now) es ≡ knows (map (λ name. name.now) names) (members_view es)
knows_keys names es = sym (knows_all names es no_members ∙ all_of (list_all (λ m. is_one_of names m.0.now) es))
