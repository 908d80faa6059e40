-- Dots that leave what is kept are given up at the node.
use Rattle.std.proofs.Common.{◌≡◌, ◌≢◌, ℕ, suc, ◌==◌, Bool, ◌||◌, ◌&&◌, true, false, true≢false}
use Rattle.std.proofs.Common.{not, cond, IsTrue, List, [], ◌∷◌, ◌++◌, filter, refl, sym, ap, ◌∙◌}
use Rattle.std.proofs.Common.{subst, arith}
use Rattle.std.specs.List.{All, Contains, list_any}
use Rattle.std.proofs.lemmas.Bool.{and_from, eq-eqb, or_left, or_right}
use Rattle.std.proofs.lemmas.List.Elements.{All-cons, All-head, All-nil, All-append, All-contains}
use Rattle.std.proofs.lemmas.List.Elements.{All-weaker}
use Rattle.std.proofs.lemmas.List.Elements.{Contains-append_left, Contains-append_right}
use Rattle.dy_dots.specs.Dots.{same_dot}
use Rattle.dy_dots.specs.declared.dots.Dot.{Dot}
use Rattle.dy_siblings.specs.Siblings.{has_dot, same_key, IsSameRow}
use Rattle.dy_siblings.specs.declared.versions.Version.{Version}
use Rattle.dy_node_store.specs.Rows.{versions_of, without_dots}
use Rattle.dy_hint_store.specs.Hints.{versions_for}
use Rattle.dy_core.specs.Worlds.{Layout, World}
use Rattle.dy_core.specs.Steps.{after_release, place_for}
use Rattle.dy_core.specs.Logs.{world_from, IsLegal, IsLegalFrom}
use Rattle.dy_core.specs.declared.steps.Step.TheVariants.{Release}
use Rattle.dy_siblings.proofs.Members.{any_gives, filter_in, filter_from, in_head}
use Rattle.dy_dots.proofs.SameDots.{same_dot_is, same_dot_self}
use Rattle.dy_siblings.proofs.SameKeys.{same_key_self}
use Rattle.std.proofs.lemmas.List.Folds.{list_any-append}
use Rattle.dy_core.proofs.Standing.{stands_from}
use Rattle.dy_core.proofs.Kept.{IsSound, step_sound}
use Rattle.dy_core.proofs.OverLogs.{log_sound}
use Rattle.dy_shares.specs.Shares.{NodePart, ReceiptParts, steps_of, with_steps}
use Rattle.dy_book.specs.Books.{BookParts, AreOfDistinctDots, MayRelease, AreOneDot, release_steps}
use Rattle.dy_book.specs.Books.{with_untold, world_of}
use Rattle.dy_node.specs.Stored.{Rooms, Stored, Matches, Shows, stands, versions_at, with_row}
use Rattle.dy_node.specs.inside.Agreed.{IsAgreed}
use Rattle.dy_node.specs.Settling.{AreReleased, IsStanding, NoneStands, same_release, without_all}
use Rattle.dy_node.specs.inside.Chosen.{taken}
use Rattle.dy_node.proofs.RoomLemmas.{with_node, with_place}
use Rattle.dy_node.proofs.Worldly.{matches_world, release_matches, shows_share}
use Rattle.dy_node.proofs.Kept.{legal_more}
use Rattle.dy_node.proofs.Kept.{world_more}

or_none : (a : Bool) → (a || false) ≡ a
or_none true = refl
or_none false = refl

-- the versions but that of one dot
without_one : (vs : List Version) (d : Dot) → IsSameRow (without_dots vs (d ∷ []))
    (filter (λ v. not (same_dot v.dot d)) vs)
without_one vs d v = (
  (λ h.
      let f = filter_from (λ u. not (list_any (λ e. same_dot u.dot e) (d ∷ []))) vs v h in
      filter_in (λ u. not (same_dot u.dot d)) vs v f.0
      (ap not (sym (or_none (same_dot v.dot d))) ∙ f.1)),
  (λ h.
      let f = filter_from (λ u. not (same_dot u.dot d)) vs v h in
      filter_in (λ u. not (list_any (λ e. same_dot u.dot e) (d ∷ []))) vs v f.0
      (ap not (or_none (same_dot v.dot d)) ∙ f.1)),
)

-- one release after another
releases_match : (layout : Layout) (w : World) → IsSound layout w →
    (s t : Stored) (receipts : List ReceiptParts) → Matches w s →
    IsLegalFrom layout w (release_steps s.rooms.node receipts) → t.counters ≡ s.counters →
    t.rooms ≡ without_all s.rooms receipts →
    Matches (world_from w (release_steps s.rooms.node receipts)) t
releases_match layout w sound s t [] is legal counters_stay rooms =
    subst (Matches w) (λ i. record { rooms = sym rooms i; counters = sym counters_stay i }) is
releases_match layout w sound s t (x ∷ xs) is legal counters_stay rooms =
    let r = with_row s.rooms x.home x.key
    (without_dots (versions_at s.rooms x.home x.key) (x.dot ∷ [])) in
    let s1 : Stored = record { rooms = r; counters = s.counters } in
    let node_is : r.node ≡ s.rooms.node = with_node s.rooms x.home x.key
    (without_dots (versions_at s.rooms x.home x.key) (x.dot ∷ [])) in
    let m = release_matches layout w sound s s1 is node_is refl x.home x.key x.dot
    (without_dots (versions_at s.rooms x.home x.key) (x.dot ∷ []))
    (without_one (versions_at s.rooms x.home x.key) x.dot)
    (with_place s.rooms x.home x.key
    (without_dots (versions_at s.rooms x.home x.key) (x.dot ∷ []))) in
    let w1 = after_release w s.rooms.node x.home x.key x.dot in
    subst (λ k. Matches (world_from w1 (release_steps k xs)) t) node_is
    (releases_match layout w1
    (step_sound layout w sound (Release (place_for s.rooms.node x.home) x.key x.dot) legal.0)
    s1 t xs m
    (subst (λ k. IsLegalFrom layout w1 (release_steps k xs)) (sym node_is) legal.1) counters_stay
    rooms)

without_node : (r : Rooms) (xs : List ReceiptParts) → (without_all r xs).node ≡ r.node
without_node r [] = refl
without_node r (x ∷ xs) = without_node
    (with_row r x.home x.key (without_dots (versions_at r x.home x.key) (x.dot ∷ []))) xs
    ∙ with_node r x.home x.key (without_dots (versions_at r x.home x.key) (x.dot ∷ []))

-- what was released is no longer kept
pub settle_shows : (layout : Layout) (b c : BookParts) (p q : NodePart) (s t : Stored)
    (released : List ReceiptParts) → IsAgreed layout b p → IsAgreed layout c q → Shows p s →
    c ≡ with_untold b (release_steps p.node released) →
    q ≡ with_steps p (release_steps p.node released) → t.counters ≡ s.counters →
    t.rooms ≡ without_all s.rooms released → Shows q t
settle_shows layout b c p q s t released before after is c_is q_is counters_stay rooms =
    shows_share (steps_of c.log) q after.belongs t
    (ap (λ (r : Rooms). r.node) rooms ∙ without_node s.rooms released ∙ is.node_is ∙ sym
    (ap (λ (x : NodePart). x.node) q_is))
    (subst (λ w. Matches w t)
    (sym (ap world_of c_is ∙ world_more b (release_steps p.node released)))
    (subst (λ k. Matches (world_from (world_of b) (release_steps k released)) t) is.node_is
    (releases_match layout (world_of b) (log_sound layout (steps_of b.log) before.legal) s t
    released (matches_world (steps_of b.log) p before.belongs s is)
    (subst (λ k. IsLegalFrom layout (world_of b) (release_steps k released)) (sym is.node_is)
    (legal_more layout b (release_steps p.node released)
    (subst (λ x. IsLegal layout (steps_of x.log)) c_is after.legal)))
    counters_stay rooms)))

-- ---- what stands may be released

pub stands_apart : (r : Rooms) (home : ℕ) (key : List ℕ) (d : Dot) → IsTrue (stands r home key d) →
    home ≡ r.node → ⊥
stands_apart r home key d st same = by_test (home == r.node) refl st
  where
    by_test : (a : Bool) → (home == r.node) ≡ a →
        cond a false (has_dot (versions_for r.hints home key) d) ≡ true → ⊥
    by_test true h e = true≢false (sym e)
    by_test false h e = let both : true ≡ false = sym (ap (λ n. n == r.node) same ∙ self r.node)
        ∙ h in cc
      where
        self : (n : ℕ) → (n == n) ≡ true
        self n = eq-eqb n n refl

pub stands_kept : (r : Rooms) (home : ℕ) (key : List ℕ) (d : Dot) → IsTrue (stands r home key d) →
    has_dot (versions_at r home key) d ≡ true
stands_kept r home key d st = by_test (home == r.node) st
  where
    by_test : (a : Bool) → cond a false (has_dot (versions_for r.hints home key) d) ≡ true →
        has_dot (cond a (versions_of r.rows key) (versions_for r.hints home key)) d ≡ true
    by_test true e = absurd (true≢false (sym e))
    by_test false e = e

standing_held : (w : World) (s : Stored) → Matches w s → (home : ℕ) (key : List ℕ) (d : Dot) →
    IsTrue (stands s.rooms home key d) → w.holdings s.rooms.node home key d ≡ true
standing_held w s is home key d standing =
    let t = any_gives (λ v. same_dot v.dot d) (versions_at s.rooms home key)
    (stands_kept s.rooms home key d standing) in
    let st = stands_from w s.rooms.node home key t.item ((is.rows_are home key t.item).0 t.in_list)
    in
    (λ i. w.holdings s.rooms.node home key (sym (same_dot_is t.item.dot d t.passes) i)) ∙ st.is_held

pub releasable : (layout : Layout) (b : BookParts) (p : NodePart) (s : Stored)
    (receipts released : List ReceiptParts) → IsAgreed layout b p → Shows p s →
    All (λ r. r.holder ≡ r.home) receipts →
    AreReleased s.rooms receipts released → All (MayRelease (world_of b) p.node) released
releasable layout b p s receipts released agreed is own are =
    All-weaker (λ x. Contains receipts x × IsStanding s.rooms x) (MayRelease (world_of b) p.node)
    (λ x h. record {
      own = All-contains (λ r. r.holder ≡ r.home) receipts x own h.0;
      other = λ same. stands_apart s.rooms x.home x.key x.dot h.1 (same ∙ sym is.node_is);
      held = (λ i. (world_of b).holdings (sym is.node_is i) x.home x.key x.dot) ∙ standing_held
          (world_of b) s (matches_world (steps_of b.log) p agreed.belongs s is) x.home x.key x.dot
          h.1;
    }) released are.each

-- ---- which receipts are chosen

all_behind : {X : Type 0} (P : X → Type 0) (x : X) (xs : List X) → All P (x ∷ xs) → All P xs
all_behind P x xs all = λ k d lt. all (suc k) d (omega (arith, lt))

all_front : {X : Type 0} (P : X → Type 0) (x : X) (xs : List X) → All P (x ∷ xs) → P x
all_front P x xs all = all 0 x (omega arith)

-- two of one home, key and dot are told to be so
pub same_told : (a b : ReceiptParts) → AreOneDot a b → same_release a b ≡ true
same_told a b same = and_from (a.home == b.home)
    (same_key a.key b.key && same_dot a.dot b.dot) (eq-eqb a.home b.home same.0)
    (and_from (same_key a.key b.key) (same_dot a.dot b.dot)
    (ap (λ k. same_key k b.key) same.1 ∙ same_key_self b.key)
    (ap (λ d. same_dot d b.dot) same.2 ∙ same_dot_self b.dot))

same_is : (a b : ReceiptParts) → same_release a b ≡ false → AreOneDot a b → ⊥
same_is a b no_ same = true≢false (sym (same_told a b same) ∙ no_)

none_same : (ys : List ReceiptParts) (x : ReceiptParts) →
    list_any (λ y. same_release y x) ys ≡ false → All (λ y. AreOneDot y x → ⊥) ys
none_same [] x no_ = All-nil (λ y. AreOneDot y x → ⊥)
none_same (y ∷ ys) x no_ = All-cons (λ z. AreOneDot z x → ⊥) y ys
    (same_is y x (or_left_false (same_release y x) _ no_))
    (none_same ys x (or_right_false (same_release y x) _ no_))
  where
    or_left_false : (a b : Bool) → (a || b) ≡ false → a ≡ false
    or_left_false true b e = absurd (true≢false e)
    or_left_false false b e = refl

    or_right_false : (a b : Bool) → (a || b) ≡ false → b ≡ false
    or_right_false true b e = absurd (true≢false e)
    or_right_false false b e = e

apart_more : (ys : List ReceiptParts) (x : ReceiptParts) → AreOfDistinctDots ys →
    All (λ y. AreOneDot y x → ⊥) ys → AreOfDistinctDots (ys ++ x ∷ [])
apart_more [] x apart none = (All-nil (λ s. AreOneDot x s → ⊥), tt)
apart_more (y ∷ ys) x apart none = (
  All-append (λ s. AreOneDot y s → ⊥) ys (x ∷ []) apart.0
      (All-cons (λ s. AreOneDot y s → ⊥) x [] (all_front (λ z. AreOneDot z x → ⊥) y ys none)
      (All-nil (λ s. AreOneDot y s → ⊥))),
  apart_more ys x apart.1 (all_behind (λ z. AreOneDot z x → ⊥) y ys none),
)

module _ (r : Rooms) where
  abbrev Each : List ReceiptParts → ReceiptParts → Type 0
  Each xs y = Contains xs y × IsStanding r y

  abbrev Every : List ReceiptParts → ReceiptParts → Type 0
  Every ys x = IsStanding r x → IsTrue (list_any (λ y. same_release y x) ys)

  pub released_none : AreReleased r [] []
  released_none = record { each = All-nil (Each []); every = All-nil (Every []); apart = tt }

  pub released_more : (xs ys : List ReceiptParts) (x : ReceiptParts) → AreReleased r xs ys →
      AreReleased r (xs ++ x ∷ []) (taken r ys x)
  released_more xs ys x are = by_stands (stands r x.home x.key x.dot) refl
      (list_any (λ y. same_release y x) ys) refl
    where
      each_more : All (Each (xs ++ x ∷ [])) ys
      each_more = All-weaker (Each xs) (Each (xs ++ x ∷ []))
          (λ y h. (Contains-append_left xs (x ∷ []) y h.0, h.1)) ys are.each

      by_stands : (a : Bool) → stands r x.home x.key x.dot ≡ a →
          (b : Bool) → list_any (λ y. same_release y x) ys ≡ b → AreReleased r (xs ++ x ∷ [])
          (cond (a && not b) (ys ++ x ∷ []) ys)
      by_stands true yes_ false none =
          record {
            each = All-append (Each (xs ++ x ∷ [])) ys (x ∷ []) each_more
                (All-cons (Each (xs ++ x ∷ [])) x []
                (Contains-append_right xs (x ∷ []) x (in_head x []), yes_)
                (All-nil (Each (xs ++ x ∷ []))));
            every = All-append (Every (ys ++ x ∷ [])) xs (x ∷ [])
                (All-weaker (Every ys) (Every (ys ++ x ∷ []))
                (λ z f st. list_any-append (λ y. same_release y z) ys (x ∷ []) ∙ or_left
                (list_any (λ y. same_release y z) ys)
                (list_any (λ y. same_release y z) (x ∷ [])) (f st)) xs are.every)
                (All-cons (Every (ys ++ x ∷ [])) x []
                (λ st. list_any-append (λ y. same_release y x) ys (x ∷ []) ∙ or_right
                (list_any (λ y. same_release y x) ys)
                (list_any (λ y. same_release y x) (x ∷ []))
                (or_left (same_release x x) false (itself x)))
                (All-nil (Every (ys ++ x ∷ []))));
            apart = apart_more ys x are.apart (none_same ys x none);
          }
        where
          itself : (z : ReceiptParts) → same_release z z ≡ true
          itself z = and_from (z.home == z.home) (same_key z.key z.key && same_dot z.dot z.dot)
              (eq-eqb z.home z.home refl)
              (and_from (same_key z.key z.key) (same_dot z.dot z.dot) (same_key_self z.key)
              (same_dot_self z.dot))
      by_stands true yes_ true there =
          record {
            each = each_more;
            every = All-append (Every ys) xs (x ∷ []) are.every
                (All-cons (Every ys) x [] (λ st. there) (All-nil (Every ys)));
            apart = are.apart;
          }
      by_stands false no_ b any_ =
          record {
            each = each_more;
            every = All-append (Every ys) xs (x ∷ []) are.every
                (All-cons (Every ys) x [] (λ st. absurd (true≢false (sym st ∙ no_)))
                (All-nil (Every ys)));
            apart = are.apart;
          }

-- one dot after another
pub without_more : (r : Rooms) (xs : List ReceiptParts) (x : ReceiptParts) →
    without_all r (xs ++ x ∷ []) ≡ with_row (without_all r xs) x.home x.key
    (without_dots (versions_at (without_all r xs) x.home x.key) (x.dot ∷ []))
without_more r [] x = refl
without_more r (y ∷ ys) x = without_more
    (with_row r y.home y.key (without_dots (versions_at r y.home y.key) (y.dot ∷ []))) ys x

pub without_stays : (r : Rooms) (xs : List ReceiptParts) → (without_all r xs).node ≡ r.node
without_stays r xs = without_node r xs

-- those that are released are for other homes
pub released_apart : (r : Rooms) (receipts released : List ReceiptParts) →
    AreReleased r receipts released → All (λ x. x.home ≢ r.node) released
released_apart r receipts released are = All-weaker (λ x. Contains receipts x × IsStanding r x)
    (λ x. x.home ≢ r.node) (λ x h. stands_apart r x.home x.key x.dot h.1) released are.each

-- where nothing stands nothing is released
pub released_nothing : (r : Rooms) (receipts released : List ReceiptParts) →
    NoneStands r receipts → AreReleased r receipts released → released ≡ []
released_nothing r receipts [] none are = refl
released_nothing r receipts (x ∷ released) none are =
    let here = All-head (λ y. Contains receipts y × IsStanding r y) x released are.each in
    let not_there = All-contains (λ y. stands r y.home y.key y.dot ≡ false) receipts x none here.0
    in absurd (true≢false (sym here.1 ∙ not_there))
