-- What is so of a book by its type, after its log and its index have changed.
use Rattle.std.proofs.Common.{◌≡◌, ℕ, suc, nat_eq, ◌+◌, ◌<◌, ◌≤◌, List, [], ◌∷◌, ◌++◌, map, cond}
use Rattle.std.proofs.Common.{length, length-append, get_or, slice_get, take, ⊎_elim, true}
use Rattle.std.proofs.Common.{Some, IsTrue, refl, sym, ap, ◌∙◌, subst, arith}
use Rattle.std.specs.List.{All, Contains, IsDistinct}
use Rattle.std.proofs.lemmas.List.Elements.{All-contains, Contains-append_cases}
use Rattle.std.proofs.lemmas.List.{take_more}
use Rattle.std.proofs.lemmas.Option.{slice_get_within, get_or_from_slice_get}
use Rattle.dy_dots.specs.declared.dots.Dot.{Dot}
use Rattle.dy_siblings.specs.Siblings.{Siblings, same_key}
use Rattle.dy_siblings.specs.declared.versions.Version.{Version}
use Rattle.dy_preference.specs.Preferences.{may_hold, homes_of}
use Rattle.dy_core.specs.declared.steps.Step.{Step}
use Rattle.dy_core.specs.declared.steps.Step.TheVariants.{Hold, Fetch, Ack}
use Rattle.dy_core.proofs.Keeping.{all_from}
use Rattle.dy_ring.specs.Rings.{Tokens}
use Rattle.dy_core.specs.Worlds.{Layout, World, AreMadeOf, empty_world, layout_of}
use Rattle.dy_core.specs.Logs.{world_after, IsLegal}
use Rattle.dy_shares.specs.declared.entries.Entry.{Entry}
use Rattle.dy_shares.specs.Shares.{steps_of, untold, told_to, ReceiptParts, receipt_parts}
use Rattle.dy_shares.specs.Shares.{IsReceipt}
use Rattle.dy_shares.proofs.Owners.{steps_of-append}
use Rattle.dy_core.specs.Steps.{IsAllowed, world_after_step, place_for}
use Rattle.dy_core.specs.Covers.{HasCover, receipt_holds}
use Rattle.dy_core.specs.declared.places.Place.{Place}
use Rattle.dy_siblings.proofs.Members.{Mapped, map_from, not_in_nil, in_cases}
use Rattle.dy_core.proofs.Receipts.{cover_from_receipts}
use Rattle.dy_core.proofs.OverLogs.{legal_join, world_from-append, log_sound}
use Rattle.dy_book.specs.declared.options.Options.{Options}
use Rattle.dy_index.specs.declared.parts.KeyPart.{KeyPart}
use Rattle.dy_book.specs.Books.{AreOf, IsNext, issue_steps}
use Rattle.dy_book.specs.inside.Kept.{IsBook}
use Rattle.dy_index.specs.Indexes.{IsIndex, IsPart, part_at}
use Rattle.dy_index.proofs.Indexing.{index_written}
use Rattle.dy_book.proofs.Holding.{legal_grown, world_grown, issue_legal}
use Rattle.dy_book.proofs.Holding.{issue_index, issue_versions, issue_covers, hold_legal}
use Rattle.dy_book.proofs.Holding.{hold_index, hold_versions, hold_covers}

-- the receipts of a hold
pub hold_receipts : (layout : Layout) (log : List Entry) → IsLegal layout (steps_of log) →
    (holder home : ℕ) (row : Siblings) →
    AreMadeOf (world_after (steps_of log)) row.key row.versions →
    IsTrue (may_hold (layout.homes row.key) holder home) → (log2 : List Entry) →
    log2 ≡ log ++ map untold (Hold (place_for holder home) row ∷ []) → (m : ℕ) → m ≡ holder →
    All (λ v. IsReceipt (steps_of log2) (receipt_parts row.key v.dot m home)) row.versions
hold_receipts layout log legal holder home row of_row may log2 log_is m holder_is =
    subst (λ (l : List Entry). All
    (λ v. IsReceipt (steps_of l) (receipt_parts row.key v.dot m home)) row.versions)
    (sym log_is)
    (subst (λ o. All (λ v. IsReceipt
    (steps_of (log ++ map untold (Hold (place_for holder home) row ∷ [])))
    (receipt_parts row.key v.dot o home)) row.versions) (sym holder_is)
    (all_from (λ v. IsReceipt
    (steps_of (log ++ map untold (Hold (place_for holder home) row ∷ [])))
    (receipt_parts row.key v.dot holder home)) row.versions (λ v inside.
    hold_covers layout log legal holder home row of_row may v inside)))

-- the receipt of an issue
pub issue_receipt : (layout : Layout) (log : List Entry) → IsLegal layout (steps_of log) →
    (node home : ℕ) (v : Version) → IsNext (world_after (steps_of log)) node v →
    (world_after (steps_of log)).counters node v.key < 1000000 →
    IsTrue (may_hold (layout.homes v.key) node home) → (log2 : List Entry) →
    log2 ≡ log ++ map untold (issue_steps node home v) →
    (k : List ℕ) → k ≡ v.key → (d : Dot) → d ≡ v.dot → (m : ℕ) → m ≡ node →
    IsReceipt (steps_of log2) (receipt_parts k d m home)
issue_receipt layout log legal node home v next few may log2 log_is k key_is d dot_is m node_is =
    subst (λ (l : List Entry). IsReceipt (steps_of l) (receipt_parts k d m home)) (sym log_is)
    (subst (λ j. IsReceipt (steps_of (log ++ map untold (issue_steps node home v)))
    (receipt_parts j d m home)) (sym key_is)
    (subst (λ (e : Dot). IsReceipt (steps_of (log ++ map untold (issue_steps node home v)))
    (receipt_parts v.key e m home)) (sym dot_is)
    (subst (λ o. IsReceipt (steps_of (log ++ map untold (issue_steps node home v)))
    (receipt_parts v.key v.dot o home)) (sym node_is)
    (issue_covers layout log legal node home v next few may))))

module _ (ring : Tokens) (n r : ℕ) (log : List Entry) (options : Options)
    (versions : ℕ) (es : List (List ℕ × KeyPart))
    (book : IsBook ring n r log options versions es) where
  -- with an index as good
  pub book_reindexed : (fs : List (List ℕ × KeyPart)) →
      ((w : World) → IsIndex w es → IsIndex w fs) → IsBook ring n r log options versions fs
  book_reindexed fs as_good =
      record {
        n_is = book.n_is;
        r_is = book.r_is;
        limits = book.limits;
        quorum = book.quorum;
        legal = book.legal;
        steps_few = book.steps_few;
        versions_few = book.versions_few;
        versions_are = book.versions_are;
        index = as_good (world_after (steps_of log)) book.index;
      }

  -- with a longer log
  pub book_goes : (log2 : List Entry) (versions2 : ℕ) (fs : List (List ℕ × KeyPart)) →
      IsLegal (layout_of ring n) (steps_of log2) → length log2 ≤ options.steps_limit →
      versions2 ≤ options.versions_limit →
      versions2 ≡ length (world_after (steps_of log2)).versions →
      IsIndex (world_after (steps_of log2)) fs →
      IsBook ring n r log2 options versions2 fs
  book_goes log2 versions2 fs legal steps_few versions_few versions_are index =
      record {
        n_is = book.n_is;
        r_is = book.r_is;
        limits = book.limits;
        quorum = book.quorum;
        legal = legal;
        steps_few = steps_few;
        versions_few = versions_few;
        versions_are = versions_are;
        index = index;
      }

  -- with a part that is as good as it was written back
  pub book_rewritten : (k key : List ℕ) → k ≡ key → (p : KeyPart) (fs : List (List ℕ × KeyPart)) →
      ((q : List ℕ) → part_at fs q ≡ cond (same_key k q) (Some p) (part_at es q)) →
      (log2 : List Entry) → log2 ≡ log → IsPart (world_after (steps_of log2)) key (Some p) →
      IsBook ring n r log2 options versions fs
  book_rewritten k key key_is p fs written log2 log_is here =
      let w = world_after (steps_of log) in
      let part = subst (λ j. IsPart w j (Some p)) (sym key_is)
      (subst (λ (l : List Entry). IsPart (world_after (steps_of l)) key (Some p)) log_is here)
      in
      subst (λ (l : List Entry). IsBook ring n r l options versions fs) (sym log_is)
      (book_goes log versions fs book.legal book.steps_few book.versions_few book.versions_are
      (index_written w w es fs k p written part (λ q apart made places are. are) book.index))

  module _ (node home : ℕ) (v : Version) (next : IsNext (world_after (steps_of log)) node v)
      (counter_left : (world_after (steps_of log)).counters node v.key < options.counter_limit)
      (may : IsTrue (may_hold (homes_of ring n v.key) node home)) where
    pub counter_few : (world_after (steps_of log)).counters node v.key < 1000000
    counter_few = let few = book.limits.counter_few in omega (arith, counter_left, few)

    -- after an issue and its hold
    pub issue_book : length (world_after (steps_of log)).versions < options.versions_limit →
        length log + 2 ≤ options.steps_limit →
        (k : List ℕ) → k ≡ v.key → (p : KeyPart) (fs : List (List ℕ × KeyPart)) →
        ((q : List ℕ) → part_at fs q ≡ cond (same_key k q) (Some p) (part_at es q))
        →
        (log2 : List Entry) → log2 ≡ log ++ map untold (issue_steps node home v) →
        IsPart (world_after (steps_of log2)) v.key (Some p) →
        IsBook ring n r log2 options (versions + 1) fs
    issue_book versions_left room k key_is p fs written log2 log_is here =
        let layout = layout_of ring n in
        let more = issue_versions layout log book.legal node home v next counter_few may in
        let count = length-append log (map untold (issue_steps node home v)) in
        let are = book.versions_are in
        subst (λ (l : List Entry). IsBook ring n r l options (versions + 1) fs) (sym log_is)
        (book_goes (log ++ map untold (issue_steps node home v)) (versions + 1) fs
        (issue_legal layout log book.legal node home v next counter_few may)
        (omega (arith, count, room)) (omega (arith, are, versions_left))
        (ap (λ m. m + 1) are ∙ sym more)
        (issue_index layout log book.legal node home v next counter_few may es fs p
        (λ q. written q ∙ ap (λ j. cond (same_key j q) (Some p) (part_at es q))
        key_is)
        (subst (λ (l : List Entry). IsPart (world_after (steps_of l)) v.key (Some p)) log_is here)
        book.index))

  module _ (holder home : ℕ) (row : Siblings)
      (of_row : AreMadeOf (world_after (steps_of log)) row.key row.versions)
      (may : IsTrue (may_hold (homes_of ring n row.key) holder home)) where
    -- after a hold
    pub hold_book : length log + 1 ≤ options.steps_limit →
        (k : List ℕ) → k ≡ row.key → (p : KeyPart) (fs : List (List ℕ × KeyPart)) →
        ((q : List ℕ) → part_at fs q ≡ cond (same_key k q) (Some p) (part_at es q))
        →
        (log2 : List Entry) → log2 ≡ log ++ map untold (Hold (place_for holder home) row ∷ []) →
        IsPart (world_after (steps_of log2)) row.key (Some p) →
        IsBook ring n r log2 options versions fs
    hold_book room k key_is p fs written log2 log_is here =
        let layout = layout_of ring n in
        let count = length-append log (map untold (Hold (place_for holder home) row ∷ [])) in
        subst (λ (l : List Entry). IsBook ring n r l options versions fs) (sym log_is)
        (book_goes (log ++ map untold (Hold (place_for holder home) row ∷ [])) versions fs
        (hold_legal layout log book.legal holder home row of_row may)
        (omega (arith, count, room)) book.versions_few
        (book.versions_are ∙ sym
        (ap length (hold_versions layout log book.legal holder home row of_row may)))
        (hold_index layout log book.legal holder home row of_row may es fs p
        (λ q. written q ∙ ap (λ j. cond (same_key j q) (Some p) (part_at es q))
        key_is)
        (subst (λ (l : List Entry). IsPart (world_after (steps_of l)) row.key (Some p)) log_is here)
        book.index))

  -- after a step that changes no version and nothing that is held
  quiet_book : (w2 : World) → (log2 : List Entry) → IsLegal (layout_of ring n) (steps_of log2) →
      length log2 ≤ options.steps_limit →
      world_after (steps_of log2) ≡ w2 → w2.versions ≡ (world_after (steps_of log)).versions →
      IsIndex w2 es → IsBook ring n r log2 options versions es
  quiet_book w2 log2 legal few world_is same index =
      book_goes log2 versions es legal few book.versions_few
      (book.versions_are ∙ sym (ap length (ap (λ x. x.versions) world_is ∙ same)))
      (subst (λ x. IsIndex x es) (sym world_is) index)

  pub fetch_book : (holder home : ℕ) (key : List ℕ) → length log + 1 ≤ options.steps_limit →
      (log2 : List Entry) → log2 ≡ log ++ untold (Fetch (place_for holder home) key) ∷ [] →
      IsBook ring n r log2 options versions es
  fetch_book holder home key room log2 log_is =
      let s = Fetch (place_for holder home) key in
      let count = length-append log (untold s ∷ []) in
      subst (λ (l : List Entry). IsBook ring n r l options versions es) (sym log_is)
      (quiet_book (world_after (steps_of log)) (log ++ untold s ∷ [])
      (legal_grown (layout_of ring n) log (s ∷ []) book.legal (tt, tt))
      (omega (arith, count, room))
      (world_grown log (s ∷ [])) refl book.index)

  -- after an ack, which is told to a session
  pub ack_book : (session : ℕ) (key : List ℕ) (d : Dot) (w : ℕ) →
      length log + 1 ≤ options.steps_limit →
      IsAllowed (layout_of ring n) (world_after (steps_of log)) (Ack key d w) →
      (log2 : List Entry) → log2 ≡ log ++ told_to session (Ack key d w) ∷ [] →
      IsBook ring n r log2 options versions es
  ack_book session key d w room allowed log2 log_is =
      let s = Ack key d w in
      let e = told_to session s in
      let count = length-append log (e ∷ []) in
      let steps_are : steps_of (log ++ e ∷ []) ≡ steps_of log ++ s ∷ [] =
      steps_of-append log (e ∷ []) in
      subst (λ (l : List Entry). IsBook ring n r l options versions es) (sym log_is)
      (quiet_book (world_after_step (world_after (steps_of log)) s) (log ++ e ∷ [])
      (subst (IsLegal (layout_of ring n)) (sym steps_are)
      (legal_join (layout_of ring n) empty_world (steps_of log) (s ∷ []) book.legal
      (allowed, tt)))
      (omega (arith, count, room))
      (ap world_after steps_are ∙ world_from-append empty_world (steps_of log) (s ∷ [])) refl
      (λ q. record {
        made_are = (book.index q).made_are;
        rows_are = (book.index q).rows_are;
        in_order = (book.index q).in_order;
        of_key = (book.index q).of_key;
      }))

place_of_receipt : ReceiptParts → Place
place_of_receipt r = record { home = r.home; holder = r.holder }

homes_same : (rs : List ReceiptParts) →
    map (λ p. p.home) (map place_of_receipt rs) ≡ map (λ r. r.home) rs
unfolding place_of_receipt
homes_same [] = refl
homes_same (r ∷ rs) = ap (λ ns. r.home ∷ ns) (homes_same rs)

holders_same : (rs : List ReceiptParts) →
    map (λ p. p.holder) (map place_of_receipt rs) ≡ map (λ r. r.holder) rs
unfolding place_of_receipt
holders_same [] = refl
holders_same (r ∷ rs) = ap (λ ns. r.holder ∷ ns) (holders_same rs)

count_same : (rs : List ReceiptParts) → length (map place_of_receipt rs) ≡ length rs
count_same [] = refl
count_same (r ∷ rs) = ap suc (count_same rs)

-- receipts that hold, of one dot, of distinct homes and distinct holders, are a cover
pub receipts_cover : (layout : Layout) (steps : List Step) → IsLegal layout steps →
    (key : List ℕ) (d : Dot) (rs : List ReceiptParts) →
    All (IsReceipt steps) rs → AreOf key d rs → IsDistinct nat_eq (map (λ r. r.home) rs) →
    IsDistinct nat_eq (map (λ r. r.holder) rs) →
    HasCover layout (world_after steps) key d (length rs)
unfolding place_of_receipt
receipts_cover layout steps legal key d rs hold of homes holders =
    subst (HasCover layout (world_after steps) key d) (count_same rs)
    (cover_from_receipts layout (world_after steps) (log_sound layout steps legal) key d
    (map place_of_receipt rs)
    (all_from (λ p. receipt_holds (world_after steps) key d p.holder p.home ≡ true)
    (map place_of_receipt rs) (λ p inside. each p (map_from place_of_receipt rs p inside)))
    (subst (IsDistinct nat_eq) (sym (homes_same rs)) homes)
    (subst (IsDistinct nat_eq) (sym (holders_same rs)) holders))
  where
    each : (p : Place) → Mapped place_of_receipt rs p →
        receipt_holds (world_after steps) key d p.holder p.home ≡ true
    each p m =
        let r = m.item in
        let h = All-contains (IsReceipt steps) rs r hold m.in_list in
        let o = All-contains (λ (x : ReceiptParts). (x.key ≡ key) × (x.dot ≡ d)) rs r of
        m.in_list in
        subst (λ (q : Place). receipt_holds (world_after steps) key d q.holder q.home ≡ true)
        m.gives
        (subst (λ k. receipt_holds (world_after steps) k d r.holder r.home ≡ true) o.0
        (subst (λ (e : Dot). receipt_holds (world_after steps) r.key e r.holder r.home ≡ true) o.1
        h))

-- one more
pub all_more : {X : Type 0} (P : X → Type 0) (xs : List X) (i : ℕ) (x : X) → i < length xs →
    x ≡ get_or xs i x → All P (take i xs) → P x → All P (take (i + 1) xs)
all_more P xs i x lt is before this =
    all_from P (take (i + 1) xs) (λ y inside.
    ⊎_elim
    (λ l. All-contains P (take i xs) y before l)
    (λ r. ⊎_elim (λ same. subst P (is ∙ sym same) this) (λ none. absurd (not_in_nil y none))
    (in_cases (get_or xs i x) y [] r))
    (Contains-append_cases (take i xs) (get_or xs i x ∷ []) y
    (subst (λ zs. Contains zs y) (take_more xs i x lt) inside)))

pub first_of : {X : Type 0} (xs : List X) (x : X) → slice_get xs 0 ≡ Some x → Contains xs x
first_of xs x is = (0, slice_get_within xs 0 x is, get_or_from_slice_get xs 0 x x is)
