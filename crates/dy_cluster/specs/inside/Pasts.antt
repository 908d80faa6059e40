-- What the versions of each key follow.
use Rattle.std.specs.Prelude.{ℕ, List, [], ◌∷◌, Option, None, unwrap_or, option_map}
use Rattle.std.specs.Prelude.{if◌then◌else◌, filter_map}
use Rattle.std.specs.Ordering.{nat_cmp}
use Rattle.std.specs.Cmp.Lexicographic.{slice_cmp}
use Rattle.std.specs.Coded.{Coded, coded_ℕ, coded_list}
use Rattle.std.specs.FinMap as maps
use Rattle.std.specs.FinSet as set
use Rattle.dy_dots.specs.Dots.{DotSet, dot_set_code}
use Rattle.dy_siblings.specs.declared.versions.Version.{Version}
use Rattle.dy_core.specs.declared.holdings.Holding.{Holding}
use Rattle.dy_cluster.specs.declared.values.PresentValue.{PresentValue}

-- pasts by the bytes of keys
abbrev pub KeyPasts : Type 0
KeyPasts = maps.FinMap (slice_cmp nat_cmp) DotSet

-- how they are told apart
abbrev pub key_pasts_code : Coded KeyPasts
key_pasts_code = maps.code (coded_list coded_ℕ) dot_set_code

-- the past of the key
abbrev pub past_at : KeyPasts → List ℕ → DotSet
past_at pasts key = unwrap_or (maps.get pasts key) set.empty

-- with one more past of the key
abbrev pub with_past : KeyPasts → List ℕ → DotSet → KeyPasts
with_past pasts key past = maps.insert pasts key (set.union (past_at pasts key) past)

-- with the past of each of the versions, as one of the key
abbrev pub with_row_pasts : KeyPasts → List ℕ → List Version → KeyPasts
with_row_pasts pasts key [] = pasts
with_row_pasts pasts key (v ∷ vs) = with_row_pasts (with_past pasts key v.past) key vs

-- with those of each row that is held
abbrev pub with_all_pasts : KeyPasts → List Holding → KeyPasts
with_all_pasts pasts [] = pasts
with_all_pasts pasts (h ∷ hs) = with_all_pasts (with_row_pasts pasts h.row.key h.row.versions) hs

-- the version's value, where it is present and its dot does not lie in the past of the key
abbrev pub found_in : KeyPasts → List ℕ → Version → Option PresentValue
found_in pasts key v =
    if set.contains (past_at pasts key) v.dot
    then None
    else option_map (λ value. record { key = key; dot = v.dot; value = value }) v.value

-- those of the versions
abbrev pub values_in : KeyPasts → List ℕ → List Version → List PresentValue
values_in pasts key vs = filter_map (found_in pasts key) vs
