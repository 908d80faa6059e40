-- What covers a dot is among what is held of its key.
use Rattle.std.proofs.Common.{◌≡◌, ℕ, List, ◌++◌, Option, refl, sym, ap}
use Rattle.std.proofs.Common.{◌∙◌, subst}
use Rattle.std.specs.List.{Contains}
use Rattle.std.proofs.lemmas.Bool.{and_parts, and_from}
use Rattle.dy_siblings.specs.Versions.{in_history}
use Rattle.dy_siblings.specs.Siblings.{same_key, covers}
use Rattle.dy_core.specs.Worlds.{World, row_at}
use Rattle.dy_core.specs.Covers.{covers_at}
use Rattle.dy_core.specs.Listings.{ListsCovers, is_covering, place_of}
use Rattle.dy_core.specs.inside.Meanings.{row_in}
use Rattle.dy_core.specs.Orders.{place_cmp, gathered}
use Rattle.dy_dots.specs.declared.dots.Dot.{Dot}
use Rattle.dy_core.specs.declared.places.Place.{Place}
use Rattle.dy_core.specs.declared.holdings.Holding.{Holding}
use Rattle.dy_siblings.proofs.Members.{any_gives}
use Rattle.dy_siblings.proofs.SameKeys.{same_key_is, same_key_self}
use Rattle.dy_core.proofs.Gathering.{gathered_from, gathered_has, gathered_sorted}
use Rattle.dy_core.proofs.Held.{Spot, at_from, place_cmp_total, places_tie, row_in-of, row_in-from}
use Rattle.dy_core.proofs.Listed.{covers_same}
use Rattle.dy_index.specs.Indexes.{IsPart, places_in}
use Rattle.dy_index.specs.declared.parts.KeyPart.{KeyPart}
use Rattle.std.proofs.lemmas.Bool.{or_left}
use Rattle.std.proofs.lemmas.List.Elements.{Contains-append_right}
use Rattle.dy_dots.specs.Dots.{same_dot}
use Rattle.std.specs.FinSet as set
use Rattle.dy_siblings.specs.Siblings.{Siblings, newest}
use Rattle.dy_siblings.specs.declared.versions.Version.{Version}
use Rattle.dy_core.specs.Worlds.{Layout, AreMadeOf}
use Rattle.dy_core.specs.Covers.{ReceiptHolds}
use Rattle.dy_core.specs.Steps.{after_hold}
use Rattle.dy_siblings.proofs.Members.{any_from}
use Rattle.dy_dots.proofs.SameDots.{same_dot_self}
use Rattle.dy_core.proofs.Kept.{IsSound}
use Rattle.dy_core.proofs.Ordered.{newest_covers}
use Rattle.dy_core.proofs.Standing.{AreOf-held}
use Rattle.dy_core.proofs.Keeping.{hold_row}

-- what covers a dot of a key is among what is held of the key
pub covers_listed : (w : World) (key : List ℕ) (o : Option KeyPart) → IsPart w key o → (d : Dot) →
    ListsCovers w key d (gathered place_cmp (is_covering key d) place_of (places_in o))
covers_listed w key o part d =
    record {
      same = λ p. (
        (λ inside.
            let s = gathered_from place_cmp (is_covering key d) place_of held p inside in
            let h = s.item in
            let parts = and_parts (same_key h.row.key key) (covers h.row.versions d) s.passes in
            let key_is = same_key_is h.row.key key parts.0 in
            let row_is = row_in-of h.holder h.home key held part.in_order h s.in_list
            (at_from h.holder h.home key h
            (record { holder_is = refl; home_is = refl; key_is = key_is })) in
            ap (λ q. covers_at w key d q.holder q.home) (sym s.gives)
            ∙ sym (covers_is h.holder h.home)
            ∙ ap (λ vs. covers vs d) row_is
            ∙ parts.1),
        (λ covered.
            let found = any_gives (λ v. in_history v d) (row_in held p.holder p.home key)
            (covers_is p.holder p.home ∙ covered) in
            let f = row_in-from p.holder p.home key held found.item found.in_list in
            let h = f.0 in
            let row_is = row_in-of p.holder p.home key held part.in_order h f.1
            (at_from p.holder p.home key h f.2) in
            subst (Contains (gathered place_cmp (is_covering key d) place_of held))
            (place_at h f.2)
            (gathered_has place_cmp (is_covering key d) place_of places_tie held h f.1
            (and_from (same_key h.row.key key) (covers h.row.versions d)
            (ap (λ k. same_key k key) f.2.key_is ∙ same_key_self key)
            (ap (λ vs. covers vs d) (sym row_is) ∙ covers_is p.holder p.home ∙ covered)))),
      );
      in_order = gathered_sorted place_cmp (is_covering key d) place_of place_cmp_total held;
    }
  where
    held : List Holding
    held = places_in o

    covers_is : (holder home : ℕ) →
        covers (row_in held holder home key) d ≡ covers_at w key d holder home
    covers_is holder home =
        covers_same (row_in held holder home key) (row_at w holder home key)
        (part.rows_are holder home) d

    place_at : {p : Place} (h : Holding) → Spot p.holder p.home key h → place_of h ≡ p
    place_at h spot = λ i. record { home = spot.home_is i; holder = spot.holder_is i }

-- each version that is held is covered there
pub covers_held : (layout : Layout) (w : World) → IsSound layout w →
    (holder home : ℕ) (row : Siblings) → AreMadeOf w row.key row.versions →
    (v : Version) → Contains row.versions v →
    ReceiptHolds (after_hold w holder home row) row.key v.dot holder home
covers_held layout w sound holder home row of_row v inside =
    let both = row_at w holder home row.key ++ row.versions in
    let reached = newest_covers w.versions sound.ordered row.key both
    (AreOf-held w holder home row of_row) v.dot
    (any_from (λ u. in_history u v.dot) both v
    (Contains-append_right (row_at w holder home row.key) row.versions v inside)
    (or_left (same_dot v.dot v.dot) (set.contains v.past v.dot) (same_dot_self v.dot))) in
    let top = any_gives (λ u. in_history u v.dot) (newest both) reached in
    or_left (covers_at (after_hold w holder home row) row.key v.dot holder home)
    (covers_at (after_hold w holder home row) row.key v.dot home home)
    (any_from (λ u. in_history u v.dot) (row_at (after_hold w holder home row) holder home row.key)
    top.item
    ((hold_row w sound.ordered holder home row of_row top.item).0 top.in_list) top.passes)
