-- The entries of the maps for the homes are in order.
use Rattle.std.proofs.Common.{◌≡◌, ℕ, suc, ◌+◌, ◌<◌, T, Bool, true, false, ◌&&◌, List, [], ◌∷◌, ◌++◌, length, length-append, map, Bor, drop, append_assoc, subst, refl, sym, ap, ◌∙◌, arith}
use Rattle.std.specs.declared.cmp.Ordering.TheVariants.{Less}
use Rattle.std.specs.Ordering.{nat_cmp, is_lt, ordering_then}
use Rattle.std.specs.Cmp.{nat_cmp_is, nat_cmp_total, tied_itself}
use Rattle.std.specs.Cmp.Lexicographic.{slice_cmp}
use Rattle.std.specs.FinMap as maps
use Rattle.std.specs.FinMap.Entries.{below_all, is_sorted, same_entries}
use Rattle.std.specs.List.{All}
use Rattle.std.proofs.lemmas.List.{length-map, map-append}
use Rattle.std.proofs.lemmas.List.Elements.{All-map, All-weaker}
use Rattle.dy_siblings.specs.Siblings.{Siblings}
use Rattle.dy_node_store.specs.Rows.{IsKeptRow, Rows}
use Rattle.dy_hint_store.specs.Hints.{Hints, IsHint, home_then_key, home_and_row, shown}
use Rattle.dy_hint_store.specs.inside.Homes.{entries_for, entries_from}
use Rattle.dy_hint_store.proofs.HomeLemmas.{home_then_key_total, home_then_key_exact}

both : (a b : Bool) → T a → T b → T (a && b)
both true b p q = q
both false b p q = p

first : (a b : Bool) → T (a && b) → T a
first true b p = tt
first false b p = p

second : (a b : Bool) → T (a && b) → T b
second true b p = p
second false b p = absurd p

-- the entries are all for greater homes
abbrev ArePast : ℕ → List ((ℕ × List ℕ) × Siblings) → Type 0
ArePast home [] = Unit {0}
ArePast home (e ∷ es) = (home < e.0.0) × ArePast home es

past_here : (least home : ℕ) (es : List (List ℕ × Siblings)) (later : List ((ℕ × List ℕ) × Siblings)) → least < home → ArePast least later → ArePast least (entries_for home es ++ later)
past_here least home [] later below past = past
past_here least home (e ∷ es) later below past = (below, past_here least home es later below past)

past_from : (least from : ℕ) (homes : List Rows) → least < from → ArePast least (entries_from from homes)
past_from least from [] below = tt
past_from least from (rows ∷ later) below =
    past_here least from (maps.entries rows) (entries_from (suc from) later) below (past_from least (suc from) later (omega (arith, below)))

below_later : (home : ℕ) (key : List ℕ) (later : List ((ℕ × List ℕ) × Siblings)) → ArePast home later → T (below_all home_then_key (home, key) later)
below_later home key [] past = tt
below_later home key (e ∷ later) past =
    subst (λ r. T (is_lt (ordering_then r (slice_cmp nat_cmp key e.0.1)) && below_all home_then_key (home, key) later)) (nat_cmp_is home e.0.0 Less past.0) (below_later home key later past.1)

below_here : (home : ℕ) (key : List ℕ) (es : List (List ℕ × Siblings)) (later : List ((ℕ × List ℕ) × Siblings)) → T (below_all (slice_cmp nat_cmp) key es) → T (below_all home_then_key (home, key) later) → T (below_all home_then_key (home, key) (entries_for home es ++ later))
below_here home key [] later here past = past
below_here home key (e ∷ es) later here past =
    subst (λ r. T (is_lt (ordering_then r (slice_cmp nat_cmp key e.0)) && below_all home_then_key (home, key) (entries_for home es ++ later))) (sym (tied_itself nat_cmp_total home))
    (both _ _ (first _ _ here) (below_here home key es later (second _ _ here) past))

sorted_here : (home : ℕ) (es : List (List ℕ × Siblings)) (later : List ((ℕ × List ℕ) × Siblings)) → T (is_sorted (slice_cmp nat_cmp) es) → ArePast home later → T (is_sorted home_then_key later) → T (is_sorted home_then_key (entries_for home es ++ later))
sorted_here home [] later here past rest = rest
sorted_here home (e ∷ es) later here past rest =
    both _ _ (below_here home e.0 es later (first _ _ here) (below_later home e.0 later past)) (sorted_here home es later (second _ _ here) past rest)

sorted_from : (from : ℕ) (homes : List Rows) → T (is_sorted home_then_key (entries_from from homes))
sorted_from from [] = tt
sorted_from from (rows ∷ later) =
    sorted_here from (maps.entries rows) (entries_from (suc from) later) (maps.entries_sorted rows) (past_from from (suc from) later (omega arith)) (sorted_from (suc from) later)

-- so they are those of the hints
pub entries_of_hints : (homes : List Rows) → maps.entries (maps.from_entries {R = home_then_key} (entries_from 0 homes)) ≡ entries_from 0 homes
entries_of_hints homes = same_entries home_then_key home_then_key_total home_then_key_exact _ _
    (maps.entries_sorted (maps.from_entries (entries_from 0 homes))) (sorted_from 0 homes)
    (λ q. sym (maps.get-entries (maps.from_entries (entries_from 0 homes)) q) ∙ maps.get-from_entries home_then_key_total (entries_from 0 homes) q)

map_twice : (home : ℕ) (rows : List (Bor Siblings)) → map (λ row. shown (home, row)) rows ≡ map {B = ℕ × Siblings} (λ row. (home, row)) (map (λ row. row.now) rows)
map_twice home [] = refl
map_twice home (row ∷ rows) = ap (λ hints. (home, row.now) ∷ hints) (map_twice home rows)

map_entries : (home : ℕ) (es : List (List ℕ × Siblings)) → map {B = ℕ × Siblings} (λ row. (home, row)) (map (λ e. e.1) es) ≡ map home_and_row (entries_for home es)
map_entries home [] = refl
map_entries home (e ∷ es) = ap (λ hints. (home, e.1) ∷ hints) (map_entries home es)

-- the rows of one home, as they are listed
pub shown_for : (home : ℕ) (rows : List (Bor Siblings)) (es : List (List ℕ × Siblings)) → map (λ row. row.now) rows ≡ map (λ e. e.1) es → map (λ row. shown (home, row)) rows ≡ map home_and_row (entries_for home es)
shown_for home rows es same = map_twice home rows ∙ ap (map {B = ℕ × Siblings} (λ row. (home, row))) same ∙ map_entries home es

-- the hints of one home, listed before those of the homes after it
pub shown_before : (homes : List Rows) (home : ℕ) (map_of : Rows) (rows : List (Bor Siblings)) (before : List (ℕ × Siblings)) → drop home homes ≡ map_of ∷ drop (home + 1) homes → map (λ row. row.now) rows ≡ maps.values map_of
    → (before ++ map (λ row. shown (home, row)) rows) ++ map home_and_row (entries_from (home + 1) (drop (home + 1) homes)) ≡ before ++ map home_and_row (entries_from home (drop home homes))
shown_before homes home map_of rows before first_is same =
    let later = drop (home + 1) homes in
    let next : home + 1 ≡ suc home = omega arith in
    append_assoc before (map (λ row. shown (home, row)) rows) (map home_and_row (entries_from (home + 1) later))
    ∙ (λ i. before ++ (shown_for home rows (maps.entries map_of) same i ++ map home_and_row (entries_from (next i) later)))
    ∙ ap (λ hints. before ++ hints) (sym (map-append home_and_row (entries_for home (maps.entries map_of)) (entries_from (suc home) later)))
    ∙ ap (λ maps_left. before ++ map home_and_row (entries_from home maps_left)) (sym first_is)

-- the rows that are kept of their keys in the map for a home are hints for it
pub hints_of_home : (hints : Hints) (home : ℕ) (map_of : Rows) →
    ((key : List ℕ) → maps.get hints (home, key) ≡ maps.get map_of key) →
    (rows : List (Bor Siblings)) → All (λ row. IsKeptRow map_of row.now) rows →
    All (IsHint hints) (map (λ row. shown (home, row)) rows)
hints_of_home hints home map_of same rows kept =
    All-map (IsHint hints) (λ row. shown (home, row)) rows
    (All-weaker (λ row. IsKeptRow map_of row.now) (λ row. IsHint hints (shown (home, row)))
    (λ row is. (same row.now.key ∙ is.0, is.1)) rows kept)

-- the entries of the maps from one home on are those of its map and those of the later homes
pub entries_more : (homes : List Rows) (home : ℕ) (map_of : Rows) →
    drop home homes ≡ map_of ∷ drop (home + 1) homes →
    length (entries_from home (drop home homes))
    ≡ length (maps.entries map_of) + length (entries_from (home + 1) (drop (home + 1) homes))
entries_more homes home map_of first_is =
    let next : home + 1 ≡ suc home = omega arith in
    ap (λ left. length (entries_from home left)) first_is
    ∙ length-append (entries_for home (maps.entries map_of)) (entries_from (suc home) (drop (home + 1) homes))
    ∙ (λ i. length-map {B = (ℕ × List ℕ) × Siblings} (maps.entries map_of) (λ e. ((home, e.0), e.1)) i
    + length (entries_from (sym next i) (drop (home + 1) homes)))
