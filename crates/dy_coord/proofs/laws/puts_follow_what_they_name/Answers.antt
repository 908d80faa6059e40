-- The version is the one that the context gives behind the log, and its past is that of the named.
use Rattle.std.proofs.Common.{◌≡◌, ◌∙◌, ◌∷◌, [], Ok, IfOk, Result, ap, subst, sym, true}
use Rattle.std.specs.FinSet as set
use Rattle.std.specs.List.{Contains}
use Rattle.dy_siblings.specs.Siblings.{merge}
use Rattle.dy_siblings.specs.Versions.{are_concurrent}
use Rattle.dy_siblings.specs.declared.versions.Version.{Version}
use Rattle.dy_core.specs.Worlds.{row_at}
use Rattle.dy_core.specs.Logs.{world_after}
use Rattle.dy_core.proofs.Kept.{past_from, past_gives}
use Rattle.dy_coord.specs.declared.put_results.PutDone.{PutDone}
use Rattle.dy_coord.specs.declared.put_results.PutFault.{PutFault}
use Rattle.dy_preference.specs.Preferences.{home_for}
use Rattle.dy_reads.specs.Lists.{homes_in}
use Rattle.dy_coord.proofs.Acked.{ends_dot}
use Rattle.dy_coord.proofs.Beside.{empty_past, stays_concurrent, stays_sibling}
use Rattle.dy_coord.proofs.laws.puts_follow_what_they_name.Goals as goal

pub returns-clause-ok : goal.returns-clause-ok
returns-clause-ok g c =
    λ list w key context value before after told result coordinator begun put done is.
    let P : Result (PutDone g.row.J.Denot) PutFault → Type 0 =
    λ r. IfOk r (λ x. x.dot ≡ begun.dot) in
    let same : done.dot ≡ begun.dot = subst P is
    (ends_dot key begun.dot w put.added put.answers put.begins told.tries before after result
    put.ends) in
    put.begun_is.dot_is ∙ sym same

pub returns-clause-follows : goal.returns-clause-follows
returns-clause-follows g c =
    λ list w key context value before after told result coordinator begun put d.
    let b = put.begun_is in
    let issued = (world_after b.log).versions in
    let past_is = ap (λ (v : Version). set.contains v.past d) b.is_made in (
      (λ e.
          let n = past_gives issued key context d (sym past_is ∙ e) in
          (n.version, record { made = n.in_list; key_is = n.key_is; named = n.named }, n.reaches)),
      (λ some.
          past_is ∙ past_from issued key context d
          (record {
            version = some.0;
            in_list = some.1.made;
            key_is = some.1.key_is;
            named = some.1.named;
            reaches = some.2;
          })),
    )

pub returns-clause-nothing : goal.returns-clause-nothing
returns-clause-nothing g c =
    λ list w key context value before after told result coordinator begun put none.
    let b = put.begun_is in
    ap (λ (v : Version). v.past) b.is_made
    ∙ empty_past (world_after b.log).versions key context none

pub returns-clause-concurrent : goal.returns-clause-concurrent
returns-clause-concurrent g c =
    λ list w key context value before after told result coordinator begun put u is.
    let b = put.begun_is in
    subst (λ (v : Version). are_concurrent u v ≡ true) (sym b.is_made)
    (stays_concurrent put.layout b.log b.legal coordinator key context value u is)

pub returns-clause-siblings : goal.returns-clause-siblings
returns-clause-siblings g c =
    λ list w key context value before after told result coordinator begun put u is held.
    let b = put.begun_is in
    let home = home_for (homes_in list) coordinator in
    (b.row_is u).1
    (subst (λ (v : Version).
    Contains (merge (row_at (world_after b.log) coordinator home key) (v ∷ [])) u)
    (sym b.is_made)
    (stays_sibling put.layout b.log b.legal coordinator key context value u is coordinator home held))
