-- The room for the counter changes nothing that is shown; the row is taken back where the book
-- refuses.
use Rattle.std.proofs.Common.{◌≡◌, ◌+◌, ◌++◌, List, [], ◌∷◌, refl, sym, ap, ◌∙◌, subst}
use Rattle.std.specs.FinMap as maps
use Rattle.dy_siblings.specs.Siblings.{Siblings, AreOneByDot, IsSameRow, merge}
use Rattle.dy_siblings.specs.declared.versions.Version.{Version}
use Rattle.dy_node_store.specs.Counters.{greatest_used, with_used}
use Rattle.dy_shares.specs.Shares.{NodePart}
use Rattle.dy_core.specs.Worlds.{layout_of}
use Rattle.dy_book.specs.Books.{BookParts, MayIssue, row_alone}
use Rattle.dy_node.specs.Stored.{Rooms, Stored, Shows, versions_at}
use Rattle.dy_node.specs.inside.Placing.{FitsBack, IsAdded, taken_back}
use Rattle.dy_node.proofs.MergedRows.{added_versions}
use Rattle.dy_node.proofs.NextOnes.{next_one, next_stays}
use Rattle.dy_node.proofs.Kept.{agreed_on, issue_shows, used_there, zero_shows}
use Rattle.dy_node.proofs.beginning.issue_row.Goals as goal

-- the counter is the next
pub make_counter-requires : goal.make_counter-requires
make_counter-requires g c =
    c.requires.counter
    ∙ ap (λ k. greatest_used c.args.stores.now.counters k + 1) (sym c.key.ensures.value)

-- the version's dot is new
pub add-requires : goal.add-requires
add-requires g c =
    let s = c.args.stores.now in
    let home = c.args.home in
    let v = c.args.version.now in
    let row_is = c.in_ok-alone.ensures.ok ∙ ap row_alone c.in_ok-try_clone.ensures.value in
    let made = ap (λ (x : Stored). x.rooms) c.in_ok-make_counter.ensures.ok in
    subst (λ (r : Siblings). AreOneByDot (versions_at c.make_counter.new.self.rooms home r.key ++ r.versions))
    (sym row_is)
    (subst (λ (r : Rooms). AreOneByDot (versions_at r home v.key ++ v ∷ [])) (sym made)
    (next_one (layout_of g.J.Naming.ring g.J.Naming.n) c.args.book.now c.args.share.now s home v
    (record { belongs = c.agree.ensures.belongs; legal = c.agree.ensures.legal })
    c.requires.shown c.requires.may c.requires.few))

-- nothing but the room for the counter
pub returns-in_err-try_clone-clause-shown : goal.returns-in_err-try_clone-clause-shown
returns-in_err-try_clone-clause-shown g c =
    let s = c.args.stores.now in
    let key = c.key.result.now in
    let shown = subst (λ q. Shows q s) (sym c.agree.ensures.share) c.requires.shown in
    subst (Shows c.agree.new.share) (sym c.in_ok-make_counter.ensures.ok)
    (zero_shows c.agree.new.share s
    (record { rooms = s.rooms; counters = with_used s.counters key 0 }) key shown refl refl)

pub returns-in_err-alone-clause-shown : goal.returns-in_err-alone-clause-shown
returns-in_err-alone-clause-shown g c =
    let s = c.args.stores.now in
    let key = c.key.result.now in
    let shown = subst (λ q. Shows q s) (sym c.agree.ensures.share) c.requires.shown in
    subst (Shows c.agree.new.share) (sym c.in_ok-make_counter.ensures.ok)
    (zero_shows c.agree.new.share s
    (record { rooms = s.rooms; counters = with_used s.counters key 0 }) key shown refl refl)

pub returns-in_err-placed-clause-shown : goal.returns-in_err-placed-clause-shown
returns-in_err-placed-clause-shown g c =
    let s = c.args.stores.now in
    let key = c.key.result.now in
    let shown = subst (λ q. Shows q s) (sym c.agree.ensures.share) c.requires.shown in
    subst (Shows c.agree.new.share)
    (sym (c.in_err-placed.ensures.err ∙ c.in_ok-make_counter.ensures.ok))
    (zero_shows c.agree.new.share s
    (record { rooms = s.rooms; counters = with_used s.counters key 0 }) key shown refl refl)

-- the book and the share are those that were lent
pub copy_and_issue-requires-clause-may : goal.copy_and_issue-requires-clause-may
copy_and_issue-requires-clause-may g c =
    subst (λ (b : BookParts). MayIssue b c.agree.new.share.node c.args.version.now)
    (sym c.agree.ensures.book)
    (subst (λ (p : NodePart). MayIssue c.args.book.now p.node c.args.version.now)
    (sym c.agree.ensures.share) c.requires.may)

-- there is room
pub use_made-requires : goal.use_made-requires
use_made-requires g c = λ none.
    let s = c.args.stores.now in
    let made = c.in_ok-placed.ensures.counters ∙ ap (λ (x : Stored). x.counters)
    c.in_ok-make_counter.ensures.ok ∙ ap (λ k. with_used s.counters k 0)
    (c.key.ensures.value ∙ sym c.key-in-Ok.ensures.value) in
    used_there s.counters c.key-in-Ok.result.now 0
    (ap (λ m. maps.get m c.key-in-Ok.result.now) (sym made) ∙ none)

-- the row that was put can be taken back
pub take_back-requires : goal.take_back-requires
take_back-requires g c =
    let row_is = c.in_ok-alone.ensures.ok ∙ ap row_alone c.in_ok-try_clone.ensures.value in
    subst (λ k. FitsBack c.add.new.self.rooms c.args.home k c.in_ok-placed.placed)
    (ap (λ (r : Siblings). r.key) row_is ∙ sym c.key-in-Err.ensures.value) c.in_ok-placed.ensures.added.fits

-- the version was made and held, and is kept
pub returns-in-Ok-clause-shown : goal.returns-in-Ok-clause-shown
returns-in-Ok-clause-shown g c =
    let layout = layout_of g.J.Naming.ring g.J.Naming.n in
    let s = c.args.stores.now in
    let v = c.args.version.now in
    let same = c.agree.ensures.book in
    let share = c.agree.ensures.share in
    let shown = subst (λ q. Shows q s) (sym share) c.requires.shown in
    let before = agreed_on layout c.args.book.now c.agree.new.self c.args.share.now
    c.agree.new.share same share
    (record { belongs = c.agree.ensures.belongs; legal = c.agree.ensures.legal }) in
    let room = c.in_ok-placed.ensures.counters ∙ ap (λ (x : Stored). x.counters)
    c.in_ok-make_counter.ensures.ok ∙ ap (λ k. with_used s.counters k 0) c.key.ensures.value in
    let used : c.use_made.new.self.counters ≡ with_used (with_used s.counters v.key 0) v.key
    (greatest_used s.counters v.key + 1) =
    ap (λ (x : Stored). x.counters) c.use_made.ensures
    ∙ (λ i. with_used (room i) (c.key-in-Ok.ensures.value i) (c.requires.counter i)) in
    let row_is = c.in_ok-alone.ensures.ok ∙ ap row_alone c.in_ok-try_clone.ensures.value in
    let added : IsAdded s.rooms c.use_made.new.self.rooms c.args.home
    (row_alone v) c.in_ok-placed.placed =
    subst (λ r. IsAdded s.rooms r c.args.home (row_alone v) c.in_ok-placed.placed)
    (sym (ap (λ (x : Stored). x.rooms) c.use_made.ensures))
    (subst (λ r. IsAdded r c.add.new.self.rooms c.args.home (row_alone v) c.in_ok-placed.placed)
    (ap (λ (x : Stored). x.rooms) c.in_ok-make_counter.ensures.ok)
    (subst (λ (r : Siblings). IsAdded c.make_counter.new.self.rooms c.add.new.self.rooms c.args.home
    r c.in_ok-placed.placed) row_is c.in_ok-placed.ensures.added)) in
    subst (λ q. Shows q c.use_made.new.self) (sym c.agree-in-Ok.ensures.share)
    (issue_shows layout c.agree.new.self c.copy_and_issue.new.book c.agree.new.share
    c.copy_and_issue.new.share s
    c.use_made.new.self c.args.home v c.in_ok-placed.placed before
    (record { belongs = c.agree-in-Ok.ensures.belongs; legal = c.agree-in-Ok.ensures.legal }) shown
    c.in-Ok.ensures.issued c.in-Ok.ensures.log c.in-Ok.ensures.share used added)

-- what is kept is the merge with the version, which is in it
pub returns-in-Ok-clause-whole : goal.returns-in-Ok-clause-whole
returns-in-Ok-clause-whole g c =
    let s = c.args.stores.now in
    let v = c.args.version.now in
    let home = c.args.home in
    let row_is = c.in_ok-alone.ensures.ok ∙ ap row_alone c.in_ok-try_clone.ensures.value in
    let added : IsAdded s.rooms c.add.new.self.rooms home (row_alone v) c.in_ok-placed.placed =
    subst (λ r. IsAdded r c.add.new.self.rooms home (row_alone v) c.in_ok-placed.placed)
    (ap (λ (x : Stored). x.rooms) c.in_ok-make_counter.ensures.ok)
    (subst (λ (r : Siblings). IsAdded c.make_counter.new.self.rooms c.add.new.self.rooms home r
    c.in_ok-placed.placed) row_is c.in_ok-placed.ensures.added) in
    let stays = next_stays (layout_of g.J.Naming.ring g.J.Naming.n) c.args.book.now
    c.args.share.now s home v
    (record { belongs = c.agree.ensures.belongs; legal = c.agree.ensures.legal })
    c.requires.shown c.requires.may c.requires.few in
    let whole = subst (λ (vs : List Version). IsSameRow vs
    (merge (versions_at s.rooms home v.key) (v ∷ [])))
    (sym (ap (λ (r : Siblings). r.versions) c.in-Ok.ensures.row))
    (added_versions s.rooms c.add.new.self.rooms home (row_alone v) c.in_ok-placed.placed added v
    stays) in
    whole

pub returns-in-Ok-clause-in_row : goal.returns-in-Ok-clause-in_row
returns-in-Ok-clause-in_row g c =
    let s = c.args.stores.now in
    let v = c.args.version.now in
    let home = c.args.home in
    let row_is = c.in_ok-alone.ensures.ok ∙ ap row_alone c.in_ok-try_clone.ensures.value in
    let added : IsAdded s.rooms c.add.new.self.rooms home (row_alone v) c.in_ok-placed.placed =
    subst (λ r. IsAdded r c.add.new.self.rooms home (row_alone v) c.in_ok-placed.placed)
    (ap (λ (x : Stored). x.rooms) c.in_ok-make_counter.ensures.ok)
    (subst (λ (r : Siblings). IsAdded c.make_counter.new.self.rooms c.add.new.self.rooms home r
    c.in_ok-placed.placed) row_is c.in_ok-placed.ensures.added) in
    let stays = next_stays (layout_of g.J.Naming.ring g.J.Naming.n) c.args.book.now
    c.args.share.now s home v
    (record { belongs = c.agree.ensures.belongs; legal = c.agree.ensures.legal })
    c.requires.shown c.requires.may c.requires.few in
    let whole = subst (λ (vs : List Version). IsSameRow vs
    (merge (versions_at s.rooms home v.key) (v ∷ [])))
    (sym (ap (λ (r : Siblings). r.versions) c.in-Ok.ensures.row))
    (added_versions s.rooms c.add.new.self.rooms home (row_alone v) c.in_ok-placed.placed added v
    stays) in
    (whole v).1 stays

pub returns-in-Ok-clause-kept : goal.returns-in-Ok-clause-kept
returns-in-Ok-clause-kept g c =
    let v = c.args.version.now in
    ap (λ (r : Siblings). r.versions) c.in-Ok.ensures.row
    ∙ sym (ap (λ (x : Stored). versions_at x.rooms c.args.home v.key) c.use_made.ensures)

-- what was put is taken back
pub returns-clause-shown : goal.returns-clause-shown
returns-clause-shown g c =
    let s = c.args.stores.now in
    let key = c.key.result.now in
    let shown = subst (λ q. Shows q s) (sym c.agree.ensures.share) c.requires.shown in
    let made = ap (λ (x : Stored). x.rooms) c.in_ok-make_counter.ensures.ok in
    let row_is = c.in_ok-alone.ensures.ok ∙ ap row_alone c.in_ok-try_clone.ensures.value in
    let rooms = ap (λ (x : Stored). x.rooms) c.take_back.ensures
    ∙ ap (λ k. taken_back c.add.new.self.rooms c.args.home k c.in_ok-placed.placed)
    (c.key-in-Err.ensures.value ∙ sym (ap (λ (r : Siblings). r.key) row_is))
    ∙ c.in_ok-placed.ensures.added.back ∙ made in
    let counters = ap (λ (x : Stored). x.counters) c.take_back.ensures
    ∙ c.in_ok-placed.ensures.counters ∙ ap (λ (x : Stored). x.counters)
    c.in_ok-make_counter.ensures.ok in
    subst (λ q. Shows q c.take_back.new.self) (sym c.in-Err.ensures.err.0)
    (zero_shows c.agree.new.share s c.take_back.new.self key shown rooms counters)
