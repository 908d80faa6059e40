use Rattle.std.proofs.Common.{◌≡◌, List, ℕ, Bool, refl, subst}
use Rattle.std.specs.Prelude.{IsTrue}
use Rattle.dy_ring.specs.Rings.{Tokens}
use Rattle.dy_transport.specs.Told.{Told}
use Rattle.dy_reads.specs.Lists.{homes_in}
use Rattle.dy_coord.specs.declared.get_done.GetDone.{GetDone}
use Rattle.dy_repair.specs.Stales.{AreCurrent}
use Rattle.dy_cluster.specs.Connections.{IsMended}
use Rattle.dy_cluster.specs.Lists.{list_of}
use Rattle.dy_storm.specs.Turns.{MendsAsSaid}
use Rattle.dy_storm.proofs.turns.get_one.Goals as goal

-- what was mended by the list of the row's key was mended by that of the key
mends : (J : Type 0) (ring : Tokens) (n : ℕ) (key : List ℕ) (done : GetDone J)
    (told after : Told J) (is_mended : Bool) → done.row.key ≡ key
    → (IsTrue is_mended → IsMended (homes_in (list_of ring n done.row.key)) done.row
    done.seen.items told after)
    → (AreCurrent done.row done.seen.items → IsTrue is_mended) →
    MendsAsSaid J (list_of ring n key) done told after is_mended
mends J ring n key done told after is_mended same mended current = record {
  mended = λ says. subst (λ (k : List ℕ).
      IsMended (homes_in (list_of ring n k)) done.row done.seen.items told after) same (mended says);
  current = current;
}

-- what the connection answered, and what its mending did
pub returns-in-Ok : goal.returns-in-Ok
returns-in-Ok g c =
    let is = c.in-Ok.ensures in
    let done = c.in-Ok.got.done in
    rw c.got_of.ensures.context (rw c.got_of.ensures.mended (
      done,
      refl,
      (
        record { told = is.ok.0; got = is.ok.1; heard = is.told },
        mends _ g.J.Naming.ring g.J.Naming.n _ done is.ok.0 _ _ is.ok.1.row_key is.ok.2 is.current,
      ),
    ))
