-- A part of the index, and the index, after a hold, and after an issue with its hold.
use Rattle.std.proofs.Common.{◌≡◌, ◌≢◌, ℕ, ◌+◌, ◌<◌, cond, List, [], ◌∷◌, ◌++◌, Some, refl, sym, ap}
use Rattle.std.proofs.Common.{◌∙◌, subst, arith}
use Rattle.std.specs.List.{Contains}
use Rattle.std.proofs.lemmas.List.Elements.{All-cons}
use Rattle.dy_dots.specs.Dots.{DotSet}
use Rattle.dy_siblings.specs.Siblings.{Siblings, AreOneByDot, IsSameRow, merge, same_key}
use Rattle.dy_siblings.specs.declared.versions.Version.{Version}
use Rattle.dy_siblings.proofs.Members.{in_head}
use Rattle.dy_core.specs.Worlds.{Layout, World, AreMadeOf, row_at}
use Rattle.dy_core.specs.Covers.{ReceiptHolds}
use Rattle.dy_core.specs.Steps.{IsAllowed, version_made, after_issue, after_hold}
use Rattle.dy_core.specs.inside.Meanings.{row_in}
use Rattle.dy_core.specs.Orders.{holding_cmp, put}
use Rattle.dy_core.specs.declared.steps.Step.TheVariants.{Issue}
use Rattle.dy_core.specs.declared.holdings.Holding.{Holding}
use Rattle.dy_core.proofs.Kept.{IsSound, step_sound}
use Rattle.dy_core.proofs.Merging.{same_row_on}
use Rattle.dy_index.specs.declared.parts.KeyPart.{KeyPart}
use Rattle.dy_index.specs.Lists.{made_of, HaveSameMade}
use Rattle.dy_index.specs.Indexes.{made_by, part_at, AreOfKey, IsPart, IsIndex}
use Rattle.dy_index.proofs.Coverage.{covers_held}
use Rattle.dy_index.proofs.Indexing.{index_written}
use Rattle.dy_index.proofs.Issuing.{made_again, known_past}
use Rattle.dy_index.proofs.OfKeys.{issue_own, issue_other, issue_rows, hold_own, hold_other}
use Rattle.dy_index.proofs.OfKeys.{agree_at}

-- ---- a hold

module _ (layout : Layout) (w : World) (sound : IsSound layout w) (holder home : ℕ)
    (row : Siblings) (of_row : AreMadeOf w row.key row.versions) where
  -- the part that has the merge at its place
  pub part_held : (old new : KeyPart) → IsPart w row.key (Some old) →
      HaveSameMade new.made.items old.made.items →
      (c : Holding) → c.holder ≡ holder → c.home ≡ home → c.row.key ≡ row.key →
      IsSameRow c.row.versions (merge (row_in old.places.items holder home row.key) row.versions) →
      new.places.items ≡ put holding_cmp old.places.items c →
      IsPart (after_hold w holder home row) row.key (Some new)
  part_held old new are same c holder_is home_is key_is merged placed =
      subst (λ hs. AreOfKey (after_hold w holder home row) row.key (made_by new) hs) (sym placed)
      (renamed (hold_own layout w sound holder home row of_row (made_by old) old.places.items are c
      holder_is home_is key_is merged))
    where
      renamed : AreOfKey (after_hold w holder home row) row.key (made_by old)
          (put holding_cmp old.places.items c) →
          AreOfKey (after_hold w holder home row) row.key (made_by new)
          (put holding_cmp old.places.items c)
      renamed a = record {
        made_are = λ node. same node ∙ a.made_are node;
        rows_are = a.rows_are;
        in_order = a.in_order;
        of_key = a.of_key;
      }

  -- the index with that part
  pub index_held : (es fs : List (List ℕ × KeyPart)) (p : KeyPart) →
      ((q : List ℕ) → part_at fs q ≡ cond (same_key row.key q) (Some p)
      (part_at es q)) →
      IsPart (after_hold w holder home row) row.key (Some p) → IsIndex w es →
      IsIndex (after_hold w holder home row) fs
  index_held es fs p written here index =
      index_written w (after_hold w holder home row) es fs row.key p written here
      (hold_other layout w sound holder home row) index

-- ---- an issue with its hold

abbrev pub alone : Version → Siblings
alone v = record { key = v.key; versions = v ∷ [] }

module _ (layout : Layout) (w : World) (sound : IsSound layout w) (node home : ℕ) (v : Version)
    (context : DotSet) (is_made : v ≡ version_made w node v.key context v.value)
    (room : w.counters node v.key < 1000000) where
  -- the issue makes the version
  pub issued_is : version_made w node v.key v.past v.value ≡ v
  issued_is = made_again layout w sound node v context is_made

  pub issue_only : IsAllowed layout w (Issue node v.key v.past v.value)
  issue_only = (known_past layout w sound node v context is_made, room)

  pub alone_made : AreMadeOf (after_issue w v) v.key (v ∷ [])
  alone_made =
      All-cons (λ u. (u.key ≡ v.key) × Contains (v ∷ w.versions) u) v [] (refl, in_head v w.versions)
      (λ k d lt. absurd (omega (arith, lt)))

  sound_made : IsSound layout (after_issue w v)
  sound_made =
      subst (λ u. IsSound layout (after_issue w u)) issued_is
      (step_sound layout w sound (Issue node v.key v.past v.value) issue_only)

  node_is : v.dot.node ≡ node
  node_is = ap (λ x. x.dot.node) is_made

  next_counter : v.dot.counter ≡ w.counters v.dot.node v.key + 1
  next_counter = ap (λ x. x.dot.counter) is_made ∙ (λ i. w.counters (sym node_is i) v.key + 1)

  -- the part that has the version among its maker's, and the merge at its place
  pub part_issued : (old new : KeyPart) → IsPart w v.key (Some old) →
      made_by new v.dot.node ≡ made_by old v.dot.node ++ v ∷ [] →
      ((n : ℕ) → n ≢ v.dot.node → made_by new n ≡ made_by old n) →
      (c : Holding) → c.holder ≡ node → c.home ≡ home → c.row.key ≡ v.key →
      IsSameRow c.row.versions (merge (row_in old.places.items node home v.key) (v ∷ [])) →
      new.places.items ≡ put holding_cmp old.places.items c →
      IsPart (after_hold (after_issue w v) node home (alone v)) v.key (Some new)
  part_issued old new are own others c holder_is home_is key_is merged placed =
      subst (λ hs. AreOfKey (after_hold (after_issue w v) node home (alone v)) v.key
      (made_by new) hs) (sym placed)
      (hold_own layout (after_issue w v) sound_made node home (alone v) alone_made (made_by new)
      old.places.items
      (issue_own layout w sound v next_counter (made_by old) old.places.items are (made_by new) own
      others)
      c holder_is home_is key_is merged)

  -- the index with that part
  pub index_issued : (es fs : List (List ℕ × KeyPart)) (p : KeyPart) →
      ((q : List ℕ) → part_at fs q ≡ cond (same_key v.key q) (Some p)
      (part_at es q)) →
      IsPart (after_hold (after_issue w v) node home (alone v)) v.key (Some p) → IsIndex w es →
      IsIndex (after_hold (after_issue w v) node home (alone v)) fs
  index_issued es fs p written here index =
      index_written w (after_hold (after_issue w v) node home (alone v)) es fs v.key p written here
      (λ q apart made places are. hold_other layout (after_issue w v) sound_made node home (alone v)
      q apart made places (issue_other layout w sound v next_counter q apart made places are))
      index

  -- the version is covered where it is held
  pub issued_covers : ReceiptHolds (after_hold (after_issue w v) node home (alone v)) v.key v.dot
      node home
  issued_covers =
      covers_held layout (after_issue w v) sound_made node home (alone v) alone_made v (in_head v [])

  -- what is held where the version comes, and the version, are one by dot
  pub issued_agrees : (old : KeyPart) → IsPart w v.key (Some old) →
      AreOneByDot (row_in old.places.items node home v.key ++ v ∷ [])
  issued_agrees old are =
      agree_at layout (after_issue w v) sound_made node home (alone v) alone_made
      (made_of (v ∷ w.versions) v.key) old.places.items
      (record {
        made_are = λ n. refl;
        rows_are = λ holder o. same_row_on (row_in old.places.items holder o v.key)
            (row_at w holder o v.key) (row_at (after_issue w v) holder o v.key)
            (are.rows_are holder o)
            (issue_rows layout w sound v next_counter holder o v.key);
        in_order = are.in_order;
        of_key = are.of_key;
      })
