-- Each version but the last has a copy of the key, and the last has the key itself.
use Rattle.std.proofs.Common.{◌≡◌, List, [], ◌∷◌, ◌++◌, sym, ap, ◌∙◌, subst, arith}
use Rattle.std.specs.List.{All, Contains}
use Rattle.std.proofs.lemmas.List.{take_all}
use Rattle.std.proofs.lemmas.List.Elements.{All-contains}
use Rattle.std.proofs.lemmas.List.Elements.{Contains-append_left, Contains-append_right}
use Rattle.dy_siblings.specs.declared.versions.Version.{Version}
use Rattle.dy_siblings.proofs.Members.{in_head}
use Rattle.dy_shares.specs.Shares.{IsReceipt, receipt_parts, steps_of}
use Rattle.dy_book.specs.Books.{receipts_of}
use Rattle.dy_book.proofs.Incoming.{given_more, map_last}
use Rattle.dy_book.proofs.receipts.give_receipts.Goals as goal

-- a copy of the key makes the receipt of this turn's version
pub loop-version-preserved : goal.loop-version-preserved
loop-version-preserved g c =
    let l = c.loop-version in
    let vs = c.versions-versions.result.now in
    let others = c.in-Some.others.now in
    let v = c.version-item.result in
    let k = c.args.row.now.key in
    let of_row : All (λ (u : Version). u.key ≡ k) vs =
    subst (λ (us : List Version). All (λ u. u.key ≡ k) us)
    (sym c.versions-versions.ensures.value) c.versions-versions.ensures.valid.of_key in
    let inside : Contains vs v = subst (λ (us : List Version). Contains us v)
    (sym c.in-Some.ensures.cases.0)
    (Contains-append_left others (c.in-Some.last.now ∷ []) v
    (l.version-index, c.loop-version-test.true, sym c.version-item.is)) in
    let own_key : v.key ≡ k = All-contains (λ (u : Version). u.key ≡ k) vs v of_row inside in
    let key_is : c.in-Some-next_key.copy ≡ v.key = c.in-Some-next_key.ensures.value ∙ sym own_key in
    record {
      given = c.push_reserved.ensures.items
          ∙ given_more others l.version-index v c.loop-version-test.true c.version-item.is
          c.args.place.now.holder c.args.place.now.home l.receipts.items c.receipt.result
          l.invariant.given
          (c.receipt.ensures ∙ (λ i. record {
            key = key_is i;
            dot = c.dot.ensures.value i;
            holder = c.args.place.now.holder;
            home = c.args.place.now.home;
          }));
      left = λ long. let left = l.invariant.left long in let fewer = c.next_key.ensures.left long in
          omega (arith, left, fewer, c.loop-version-test.true);
      same = c.next_key.ensures.same;
      room = c.push_reserved.ensures.capacity ∙ l.invariant.room;
    }

pub receipt-requires-2 : goal.receipt-requires-2
receipt-requires-2 g c =
    let row = c.args.row.now in
    let last = c.in-Some.last.now in
    let steps = steps_of c.args.ledger.now.log in
    let holder = c.args.place.now.holder in
    let home = c.args.place.now.home in
    let inside : Contains row.versions last = subst (λ (us : List Version). Contains us last)
    (sym c.in-Some.ensures.cases.0 ∙ c.versions-versions.ensures.value)
    (Contains-append_right c.in-Some.others.now (last ∷ []) last (in_head last [])) in
    subst (λ k. IsReceipt steps (receipt_parts k c.dot-2.result holder home)) (sym c.requires.key)
    (subst (λ d. IsReceipt steps (receipt_parts row.key d holder home)) (sym c.dot-2.ensures.value)
    (All-contains (λ v. IsReceipt steps (receipt_parts row.key v.dot holder home)) row.versions last
    c.requires.held inside))

pub returns : goal.returns
returns g c =
    let l = c.loop-version in
    let vs = c.versions-versions.result.now in
    let others = c.in-Some.others.now in
    let last = c.in-Some.last.now in
    let k = c.args.row.now.key in
    let holder = c.args.place.now.holder in
    let home = c.args.place.now.home in
    let of_row : All (λ (u : Version). u.key ≡ k) vs =
    subst (λ (us : List Version). All (λ u. u.key ≡ k) us)
    (sym c.versions-versions.ensures.value) c.versions-versions.ensures.valid.of_key in
    let inside : Contains vs last = subst (λ (us : List Version). Contains us last)
    (sym c.in-Some.ensures.cases.0)
    (Contains-append_right others (last ∷ []) last (in_head last [])) in
    let key_is : c.args.key ≡ last.key = c.requires.key
    ∙ sym (All-contains (λ (u : Version). u.key ≡ k) vs last of_row inside) in
    let given = l.invariant.given ∙ ap (λ (us : List Version). receipts_of us holder home)
    (take_all l.version-index others c.loop-version-test.false) in
    c.push_reserved-2.ensures.items
    ∙ ((λ i. given i ++ (c.receipt-2.ensures ∙ (λ j. record {
      key = key_is j;
      dot = c.dot-2.ensures.value j;
      holder = holder;
      home = home;
    })) i ∷ [])
    ∙ (sym (map_last holder home others last)
    ∙ ap (λ (us : List Version). receipts_of us holder home)
    (sym c.in-Some.ensures.cases.0 ∙ c.versions-versions.ensures.value)))
