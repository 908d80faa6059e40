-- Which keys are settled, by a book's whole index.
use Rattle.std.proofs.Common.{◌≡◌, ℕ, ◌<◌, ◌≤◌, zero, suc, Bool, true, false, cond, ◌&&◌, not, eqb}
use Rattle.std.proofs.Common.{◌⊎◌, List, [], ◌∷◌, length, Option, None, Some, refl, sym, ap, ◌∙◌}
use Rattle.std.proofs.Common.{subst, inl, inr, ⊎_elim, arith}
use Rattle.std.specs.List.{All, Contains, list_any}
use Rattle.std.proofs.lemmas.Bool.{cases_Bool, and_parts, and_from, true≢false, not-true}
use Rattle.std.proofs.lemmas.Bool.{not_from_false, eqb-true, eqb-false}
use Rattle.std.proofs.lemmas.List.{get_or_default}
use Rattle.std.proofs.lemmas.List.Elements.{All-contains}
use Rattle.dy_dots.specs.Dots.{same_dot}
use Rattle.dy_siblings.specs.Siblings.{same_key}
use Rattle.dy_siblings.specs.declared.versions.Version.{Version}
use Rattle.dy_core.specs.Worlds.{Layout, World, IsSettled}
use Rattle.dy_core.specs.Logs.{world_after, IsLegal}
use Rattle.dy_core.specs.Listings.{ListsSettled}
use Rattle.dy_core.specs.inside.Meanings.{is_nothing}
use Rattle.dy_core.specs.Orders.{key_cmp}
use Rattle.dy_core.specs.declared.steps.Step.{Step}
use Rattle.dy_siblings.proofs.Members.{not_in_nil, in_head, in_tail, in_cases, any_gives, any_from}
use Rattle.dy_siblings.proofs.Members.{none_from}
use Rattle.dy_dots.proofs.SameDots.{same_dot_is}
use Rattle.dy_siblings.proofs.SameKeys.{same_key_is}
use Rattle.dy_core.proofs.Standing.{stands_from, stands_in}
use Rattle.dy_core.proofs.Kept.{IsSound}
use Rattle.dy_core.proofs.OverLogs.{log_sound}
use Rattle.dy_core.proofs.Held.{at_from, keys_tie, row_in-of, row_in-from}
use Rattle.dy_index.specs.inside.Held.{has_some, is_hint_here}
use Rattle.dy_index.specs.Lists.{IsInOrder, list_at}
use Rattle.dy_index.specs.Indexes.{IsIndex, IsPart, made_in, part_at}
use Rattle.dy_index.specs.inside.Listed.{settled_keys}
use Rattle.dy_index.specs.inside.Listed.{settled_part}
use Rattle.dy_index.specs.declared.parts.KeyPart.{KeyPart}
use Rattle.dy_index.proofs.Making.{by_from, by_parts, in_made, list_at-past, made_from}

-- an entry of the settled key
record Settles (es : List (List ℕ × KeyPart)) (key : List ℕ) : Type 0 where
  pub entry : List ℕ × KeyPart
  pub in_list : Contains es entry
  pub key_is : entry.0 ≡ key
  pub passes : settled_part entry.1 ≡ true

keys_from : (es : List (List ℕ × KeyPart)) (key : List ℕ) → Contains (settled_keys es) key →
    Settles es key
keys_from [] key there = absurd (not_in_nil key there)
keys_from (e ∷ es) key there = go (settled_part e.1) refl there (keys_from es key)
  where
    wider : Settles es key → Settles (e ∷ es) key
    wider s = record {
      entry = s.entry;
      in_list = in_tail e s.entry es s.in_list;
      key_is = s.key_is;
      passes = s.passes;
    }

    go : (b : Bool) → settled_part e.1 ≡ b →
        Contains (cond b (e.0 ∷ settled_keys es) (settled_keys es)) key →
        (Contains (settled_keys es) key → Settles es key) → Settles (e ∷ es) key
    go true is inside below =
        ⊎_elim (λ same. record
        { entry = e; in_list = in_head e es; key_is = sym same; passes = is })
        (λ later. wider (below later)) (in_cases e.0 key (settled_keys es) inside)
    go false is inside below = wider (below inside)

keys_has : (es : List (List ℕ × KeyPart)) (e : List ℕ × KeyPart) → Contains es e →
    settled_part e.1 ≡ true → Contains (settled_keys es) e.0
keys_has [] e there passes = absurd (not_in_nil e there)
keys_has (x ∷ es) e there passes =
    go (settled_part x.1) refl (in_cases x e es there) (λ later. keys_has es e later passes)
  where
    go : (b : Bool) → settled_part x.1 ≡ b → (e ≡ x) ⊎ Contains es e →
        (Contains es e → Contains (settled_keys es) e.0) →
        Contains (cond b (x.0 ∷ settled_keys es) (settled_keys es)) e.0
    go true is (inl same) below =
        subst (λ k. Contains (x.0 ∷ settled_keys es) k) (ap (λ y. y.0) (sym same))
        (in_head x.0 (settled_keys es))
    go true is (inr later) below = in_tail x.0 e.0 (settled_keys es) (below later)
    go false is (inl same) below =
        absurd (true≢false (sym passes ∙ ap (λ y. settled_part y.1) same ∙ is))
    go false is (inr later) below = below later

first_in : (vs : List Version) → not (is_nothing vs) ≡ true → (v : Version) × Contains vs v
first_in [] e = absurd (true≢false (sym e))
first_in (v ∷ vs) e = (v, in_head v vs)

some_in : (vs : List Version) (v : Version) → Contains vs v → not (is_nothing vs) ≡ true
some_in [] v h = absurd (not_in_nil v h)
some_in (x ∷ vs) v h = refl

lt_or_le : (m n : ℕ) → (m < n) ⊎ (n ≤ m)
lt_or_le m zero = inr (omega arith)
lt_or_le zero (suc n) = inl (omega arith)
lt_or_le (suc m) (suc n) =
    ⊎_elim (λ l. inl (omega (arith, l))) (λ r. inr (omega (arith, r))) (lt_or_le m n)

-- the entry at a key
entry_at : (es : List (List ℕ × KeyPart)) →
    ((key : List ℕ) (p : KeyPart) → part_at es key ≡ Some p → Contains es (key, p)) →
    (key : List ℕ) →
    (o : Option KeyPart) → part_at es key ≡ o →
    (v : Version) (node : ℕ) → Contains (made_in o node) v →
    (p : KeyPart) × (o ≡ Some p) × Contains es (key, p)
entry_at es has key None is v node there = absurd (not_in_nil v there)
entry_at es has key (Some p) is v node there = (p, refl, has key p is)

module _ (layout : Layout) (w : World) (sound : IsSound layout w) (key : List ℕ) (p : KeyPart)
    (part : IsPart w key (Some p)) where
  version_in : list_any has_some p.made.items ≡ true →
      (v : Version) × Contains w.versions v × (v.key ≡ key)
  version_in any =
      let f = any_gives has_some p.made.items any in
      let n = f.in_list.0 in
      let list_is : list_at p.made.items n ≡ f.item =
      get_or_default p.made.items n [] f.item f.in_list.1 ∙ f.in_list.2 in
      let first = first_in f.item f.passes in
      let made = made_from w.versions key n first.0
      (subst (λ vs. Contains vs first.0) (sym list_is ∙ part.made_are n) first.1) in
      (first.0, made.0, (by_parts first.0 n key made.1).1)

  version_from : (v : Version) → Contains w.versions v → v.key ≡ key →
      list_any has_some p.made.items ≡ true
  version_from v made key_is =
      let there = subst (λ vs. Contains vs v) (sym (part.made_are v.dot.node))
      (in_made w.versions key v.dot.node v made (by_from v v.dot.node key refl key_is)) in
      any_from has_some p.made.items (list_at p.made.items v.dot.node) (within v there)
      (some_in (list_at p.made.items v.dot.node) v there)
    where
      within : (v : Version) → Contains (list_at p.made.items v.dot.node) v →
          Contains p.made.items (list_at p.made.items v.dot.node)
      within v there = (
        v.dot.node,
        below,
        get_or_default p.made.items v.dot.node
            (list_at p.made.items v.dot.node) [] below,
      )
        where
          below : v.dot.node < length p.made.items
          below = ⊎_elim (λ l. l)
              (λ past. absurd (not_in_nil v
              (subst (λ vs. Contains vs v) (list_at-past p.made.items v.dot.node past) there)))
              (lt_or_le v.dot.node (length p.made.items))

  settled_gives : list_any is_hint_here p.places.items ≡ false → IsSettled w key
  settled_gives none holder home d is_held =
      let issued = any_gives (λ v. same_key v.key key && same_dot v.dot d) w.versions
      (sound.held_sound holder home key d is_held).1 in
      let v = issued.item in
      let parts = and_parts (same_key v.key key) (same_dot v.dot d) issued.passes in
      let stands = stands_in w holder home key v
      (record {
        made = issued.in_list;
        key_is = same_key_is v.key key parts.0;
        is_held = ap (w.holdings holder home key) (same_dot_is v.dot d parts.1) ∙ is_held;
      }) in
      let row_has = (part.rows_are holder home v).1 stands in
      let f = row_in-from holder home key p.places.items v row_has in
      let h = f.0 in
      let row_is = row_in-of holder home key p.places.items part.in_order h f.1
      (at_from holder home key h f.2) in
      let some = some_in h.row.versions v (subst (λ vs. Contains vs v) row_is row_has) in
      sym f.2.holder_is
      ∙ ⊎_elim
      (λ same. eqb-true h.holder h.home same)
      (λ other. absurd (true≢false
      (sym (any_from is_hint_here p.places.items h f.1
      (and_from (not (eqb h.holder h.home)) (not (is_nothing h.row.versions))
      (not_from_false (eqb h.holder h.home) other) some)) ∙ none)))
      (cases_Bool (eqb h.holder h.home))
      ∙ f.2.home_is

  settled_from : IsSettled w key → list_any is_hint_here p.places.items ≡ false
  settled_from settled =
      none_from is_hint_here p.places.items (λ h there hint.
      let parts = and_parts (not (eqb h.holder h.home)) (not (is_nothing h.row.versions)) hint in
      let first = first_in h.row.versions parts.1 in
      let row_is = row_in-of h.holder h.home key p.places.items part.in_order h there
      (at_from h.holder h.home key h
      (record {
        holder_is = refl;
        home_is = refl;
        key_is = All-contains (λ h. h.row.key ≡ key) p.places.items h part.of_key there;
      })) in
      let s = stands_from w h.holder h.home key first.0
      ((part.rows_are h.holder h.home first.0).0
      (subst (λ vs. Contains vs first.0) (sym row_is) first.1)) in
      eqb-false h.holder h.home (not-true (eqb h.holder h.home) parts.0)
      (settled h.holder h.home first.0.dot s.is_held))

-- the settled keys of the index, in order, are those of the world
pub settled_listed : (layout : Layout) (steps : List Step) → IsLegal layout steps →
    (entries : List (List ℕ × KeyPart)) → IsIndex (world_after steps) entries →
    All (λ e. part_at entries e.0 ≡ Some e.1) entries →
    ((key : List ℕ) (p : KeyPart) → part_at entries key ≡ Some p → Contains entries (key, p)) →
    (keys : List (List ℕ)) → IsInOrder key_cmp (settled_keys entries) keys →
    ListsSettled (world_after steps) keys
settled_listed layout steps legal entries index found has keys order =
    record {
      same = λ key. (
        (λ there.
            let s = keys_from entries key (order.is_item key there) in
            let part = subst (λ k. IsPart w k (Some s.entry.1)) s.key_is
            (subst (IsPart w s.entry.0)
            (All-contains (λ e. part_at entries e.0 ≡ Some e.1) entries s.entry found s.in_list)
            (index s.entry.0)) in
            let parts = and_parts (list_any has_some s.entry.1.made.items)
            (not (list_any is_hint_here s.entry.1.places.items)) s.passes in (
              version_in layout w sound key s.entry.1 part parts.0,
              settled_gives layout w sound key
                  s.entry.1 part (not-true (list_any is_hint_here s.entry.1.places.items) parts.1),
            )),
        (λ h.
            let v = h.0.0 in
            let there = subst (λ vs. Contains vs v) (sym ((index key).made_are v.dot.node))
            (in_made w.versions key v.dot.node v h.0.1 (by_from v v.dot.node key refl h.0.2)) in
            let e = entry_at entries has key (part_at entries key) refl v v.dot.node there in
            let part = subst (IsPart w key) e.1 (index key) in
            let t = order.tied key (keys_has entries (key, e.0) e.2
            (and_from (list_any has_some e.0.made.items)
            (not (list_any is_hint_here e.0.places.items))
            (version_from layout w sound key e.0 part v h.0.1 h.0.2)
            (not_from_false (list_any is_hint_here e.0.places.items)
            (settled_from layout w sound key e.0 part h.1)))) in
            subst (Contains keys) (sym (keys_tie key t.0 t.2)) t.1),
      );
      in_order = order.in_order;
    }
  where
    w : World
    w = world_after steps

    sound : IsSound layout w
    sound = log_sound layout steps legal
