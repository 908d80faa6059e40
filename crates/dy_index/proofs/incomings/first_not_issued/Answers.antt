use Rattle.std.proofs.Common.{◌≡◌, List, sym, ◌∙◌, subst}
use Rattle.std.specs.List.{All, Contains}
use Rattle.std.specs.Option.{option_copied}
use Rattle.std.proofs.lemmas.Bool.{true≢false}
use Rattle.std.proofs.lemmas.List.{take_all}
use Rattle.std.proofs.lemmas.List.Elements.{All-contains}
use Rattle.dy_siblings.specs.Siblings.{Rise}
use Rattle.dy_siblings.specs.declared.versions.Version.{Version}
use Rattle.dy_core.specs.Worlds.{AreMadeOf}
use Rattle.dy_core.specs.Logs.{world_after}
use Rattle.dy_index.specs.Indexes.{IsPartAfter}
use Rattle.dy_index.specs.Readings.{IsLeastNotIssued}
use Rattle.dy_index.proofs.Incoming.{least_is, issued_more}
use Rattle.dy_index.proofs.incomings.first_not_issued.Goals as goal

pub is_issued_as-requires-clause-known : goal.is_issued_as-requires-clause-known
is_issued_as-requires-clause-known c =
    let vs = c.versions-versions.result.now in
    let k = c.args.row.now.key in
    let v = c.version-item.result in
    let of_row : All (λ (u : Version). u.key ≡ k) vs =
    subst (λ (us : List Version). All (λ u. u.key ≡ k) us)
    (sym c.versions-versions.ensures.value) c.versions-versions.ensures.valid.of_key in
    let own_key : v.key ≡ k =
    All-contains (λ (u : Version). u.key ≡ k) vs v of_row
    (c.loop-version.version-index, c.loop-version-test.true, sym c.version-item.is) in (
      c.requires.0,
      subst (λ j. IsPartAfter c.requires.0 j (option_copied c.args.part)) (sym own_key)
          c.requires.1,
    )

pub returns-then-not-is_issued_as : goal.returns-then-not-is_issued_as
returns-then-not-is_issued_as c = λ steps is.
    let vs = c.versions-versions.result.now in
    let k = c.args.row.now.key in
    let v = c.version-item.result in
    let of_row : All (λ (u : Version). u.key ≡ k) vs =
    subst (λ (us : List Version). All (λ u. u.key ≡ k) us)
    (sym c.versions-versions.ensures.value) c.versions-versions.ensures.valid.of_key in
    let own_key : v.key ≡ k =
    All-contains (λ (u : Version). u.key ≡ k) vs v of_row
    (c.loop-version.version-index, c.loop-version-test.true, sym c.version-item.is) in
    let known = subst (λ j. IsPartAfter steps j (option_copied c.args.part)) (sym own_key) is in
    let rise = subst Rise
    (sym c.versions-versions.ensures.value) c.versions-versions.ensures.valid.rise in
    subst (λ us. IsLeastNotIssued (world_after steps).versions us
    c.dot-then-not-is_issued_as.result)
    c.versions-versions.ensures.value
    (least_is (world_after steps).versions vs k rise
    c.loop-version.version-index v c.loop-version-test.true
    c.version-item.is
    (c.loop-version.invariant.issued steps is)
    (λ inside. true≢false (sym ((c.is_issued_as.ensures steps known).1 inside)
    ∙ c.if-not-is_issued_as.true))
    c.dot-then-not-is_issued_as.result c.dot-then-not-is_issued_as.ensures.value)

pub loop-version-preserved : goal.loop-version-preserved
loop-version-preserved c =
    let vs = c.versions-versions.result.now in
    let k = c.args.row.now.key in
    let v = c.version-item.result in
    let of_row : All (λ (u : Version). u.key ≡ k) vs =
    subst (λ (us : List Version). All (λ u. u.key ≡ k) us)
    (sym c.versions-versions.ensures.value) c.versions-versions.ensures.valid.of_key in
    let own_key : v.key ≡ k =
    All-contains (λ (u : Version). u.key ≡ k) vs v of_row
    (c.loop-version.version-index, c.loop-version-test.true, sym c.version-item.is) in
    record {
      issued = λ steps is.
          issued_more
          (λ u. (u.key ≡ k) × Contains (world_after steps).versions u) vs
          c.loop-version.version-index v c.loop-version-test.true c.version-item.is
          (c.loop-version.invariant.issued steps is) (
            own_key,
            (c.is_issued_as.ensures steps
                (subst (λ j. IsPartAfter steps j (option_copied c.args.part)) (sym own_key) is)).0
                c.if-not-is_issued_as.false,
          );
      made = c.made_next-made.ensures;
    }

pub returns : goal.returns
returns c = λ steps is.
    subst (AreMadeOf (world_after steps) c.args.row.now.key)
    c.versions-versions.ensures.value
    (subst (AreMadeOf (world_after steps) c.args.row.now.key)
    (take_all c.loop-version.version-index c.versions-versions.result.now
    c.loop-version-test.false) (c.loop-version.invariant.issued steps is))
