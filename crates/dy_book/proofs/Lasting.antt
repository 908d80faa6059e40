-- What was issued at a front of the log is issued now.
use Rattle.std.proofs.Common.{◌≡◌, ℕ, List, sym, subst}
use Rattle.std.specs.List.{Contains}
use Rattle.std.proofs.lemmas.List.Elements.{All-weaker}
use mathlib.Core.List.{IsPrefix}
use Rattle.dy_siblings.specs.declared.versions.Version.{Version}
use Rattle.dy_core.specs.Worlds.{Layout, AreMadeOf}
use Rattle.dy_core.specs.Logs.{IsLegal, world_after}
use Rattle.dy_core.proofs.OverLogs.{issued_stays}
use Rattle.dy_shares.specs.Shares.{steps_of}
use Rattle.dy_shares.specs.declared.entries.Entry.{Entry}
use Rattle.dy_shares.proofs.Later.{steps_begin}

pub vouched_later : (layout : Layout) (front log : List Entry) → IsPrefix front log →
    IsLegal layout (steps_of log) → (key : List ℕ) (vs : List Version) →
    AreMadeOf (world_after (steps_of front)) key vs → AreMadeOf (world_after (steps_of log)) key vs
vouched_later layout front log begins legal key vs made =
    let is = steps_begin front log begins in
    All-weaker (λ v. (v.key ≡ key) × Contains (world_after (steps_of front)).versions v)
    (λ v. (v.key ≡ key) × Contains (world_after (steps_of log)).versions v)
    (λ v m. (
      m.0,
      subst (λ ss. Contains (world_after ss).versions v) is
          (issued_stays layout (steps_of front) (steps_of begins.0)
          (subst (IsLegal layout) (sym is) legal) v m.1),
    ))
    vs made
