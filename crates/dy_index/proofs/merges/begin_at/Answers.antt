-- Where nothing is held at the place, the merge is put among the places; else it replaces what is.
use Rattle.std.proofs.Common.{◌≡◌, ◌<◌, List, IfNone, true, false, length, get_or, set, sym}
use Rattle.std.proofs.Common.{ap, ◌∙◌, subst}
use Rattle.std.specs.List.{list_any}
use Rattle.std.proofs.lemmas.List.{get_or-set_same, length-set, set-get_or, set-set}
use Rattle.dy_siblings.specs.Siblings.{IsSameRow, merge}
use Rattle.dy_core.specs.inside.Meanings.{is_at, row_in}
use Rattle.dy_core.specs.declared.holdings.Holding.{Holding}
use Rattle.dy_core.proofs.Held.{Spot, spot_from}
use Rattle.dy_index.specs.Merges.{FitsIn, merged_by, nothing, taken_back}
use Rattle.dy_index.proofs.Besides.{put_there}
use Rattle.dy_index.proofs.merges.begin_at.Goals as goal

pub begin_first-requires-clause-nothing : goal.begin_first-requires-clause-nothing
begin_first-requires-clause-nothing c =
    let none = subst (λ o. IfNone o (list_any
    (is_at c.args.holder c.args.home c.key.result.now) c.as_slice.result.now ≡ false))
    c.in_default.is c.index_of.ensures.none in
    sym (λ i. list_any (is_at c.args.holder c.args.home (c.key.ensures i)) (c.as_slice.ensures.value i))
    ∙ none

pub returns-in-Some-clause-held : goal.returns-in-Some-clause-held
returns-in-Some-clause-held c =
    let old : List Holding = c.args.places.now.items in
    let row = c.args.row.now in
    let at = c.in-Some.at in
    let h : Holding = c.index_mut.result.now in
    let begun = c.begin.new.self in
    let m = c.in_ok-merging.merging in
    let new : Holding = merged_by m begun in
    let there : c.as_slice.result.now ≡ old = c.as_slice.ensures.value in
    let is : h ≡ get_or old at h = c.index_mut.ensures.value in
    let lt : at < length old = subst (λ (hs : List Holding). at < length hs) there
    c.in-Some.ensures.bound in
    let found : h ≡ get_or c.as_slice.result.now at h = is ∙ ap (λ hs. get_or hs at h) (sym there) in
    let spot : Spot c.args.holder c.args.home c.key.result.now h =
    spot_from c.args.holder c.args.home c.key.result.now h
    (subst (λ (x : Holding). is_at c.args.holder c.args.home c.key.result.now x ≡ true)
    (sym found) (c.in-Some.ensures.there h)) in
    let row_is : row_in old c.args.holder c.args.home row.key ≡ h.row.versions =
    sym (λ i. row_in (there i) c.args.holder c.args.home (c.key.ensures i))
    ∙ (c.in-Some.ensures.row h ∙ ap (λ (x : Holding). x.row.versions) (sym found)) in
    record {
      held = new;
      holder_is = c.in_ok-merging.ensures.holder ∙ spot.holder_is;
      home_is = c.in_ok-merging.ensures.home ∙ spot.home_is;
      key_is = c.in_ok-merging.ensures.key ∙ (spot.key_is ∙ c.key.ensures);
      merged = subst (λ vs. IsSameRow new.row.versions (merge vs row.versions)) (sym row_is)
          c.in_ok-merging.ensures.row;
      placed = ap (λ x. set (set old at begun) at (merged_by m x))
          (get_or-set_same old at begun nothing lt)
          ∙ (set-set old at begun new
          ∙ put_there old at h new c.requires.in_order lt
          (record {
            holder_is = c.in_ok-merging.ensures.holder ∙ ap (λ (x : Holding). x.holder) is;
            home_is = c.in_ok-merging.ensures.home ∙ ap (λ (x : Holding). x.home) is;
            key_is = c.in_ok-merging.ensures.key ∙ ap (λ (x : Holding). x.row.key) is;
          }));
    }

pub returns-in-Some-clause-back : goal.returns-in-Some-clause-back
returns-in-Some-clause-back c =
    let old : List Holding = c.args.places.now.items in
    let at = c.in-Some.at in
    let h : Holding = c.index_mut.result.now in
    let begun = c.begin.new.self in
    let m = c.in_ok-merging.merging in
    let lt : at < length old = subst (λ (hs : List Holding). at < length hs)
    c.as_slice.ensures.value c.in-Some.ensures.bound in
    ap (λ x. set (set old at begun) at (taken_back m x)) (get_or-set_same old at begun nothing lt)
    ∙ (set-set old at begun (taken_back m begun)
    ∙ (ap (set old at) (c.in_ok-merging.ensures.back ∙ c.index_mut.ensures.value)
    ∙ set-get_or old at h))

pub returns-in-Some-clause-fits : goal.returns-in-Some-clause-fits
returns-in-Some-clause-fits c =
    let old : List Holding = c.args.places.now.items in
    let at = c.in-Some.at in
    let begun = c.begin.new.self in
    let m = c.in_ok-merging.merging in
    let lt : at < length old = subst (λ (hs : List Holding). at < length hs)
    c.as_slice.ensures.value c.in-Some.ensures.bound in (
      subst (λ n. at < n) (sym (length-set old at begun)) lt,
      subst (FitsIn m) (sym (get_or-set_same old at begun nothing lt))
          c.in_ok-merging.ensures.fits,
    )
