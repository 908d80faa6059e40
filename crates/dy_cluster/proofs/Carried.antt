-- Values that are put behind nothing, one after another.
use Rattle.std.proofs.Common.{◌≡◌, ℕ, ◌++◌, List, [], ◌∷◌, Some, Result, Ok, Err, IfOk, IfErr}
use Rattle.std.proofs.Common.{OnErr, refl, subst}
use Rattle.std.specs.FinSet as set
use Rattle.dy_dots.specs.Dots.{DotSet}
use Rattle.dy_ring.specs.Rings.{Tokens}
use Rattle.dy_shares.specs.Shares.{SessionPart}
use Rattle.dy_transport.specs.Told.{Told}
use Rattle.dy_coord.specs.PutDones.{IsPutDone}
use Rattle.dy_coord.specs.declared.put_results.PutDone.{PutDone}
use Rattle.dy_coord.specs.declared.put_results.PutFault.{PutFault}
use Rattle.dy_cluster.specs.Carrying.{AreCarried, EndsBehindNothing, IsCarried}
use Rattle.dy_cluster.specs.Connections.{PutEndsAnew}
use Rattle.dy_cluster.specs.Lists.{list_of}
use Rattle.dy_cluster.specs.declared.values.PresentValue.{PresentValue}

module _ {J : Type 0} (ring : Tokens) (n : ℕ) (w : ℕ) where
  -- one more is put behind those that were
  pub carried_more : (xs : List PresentValue) (x : PresentValue) (a b c : SessionPart)
      (s t u : Told J) → AreCarried {J = J} ring n w xs a b s t →
      IsCarried {J = J} ring n w x b c t u → AreCarried {J = J} ring n w (xs ++ x ∷ []) a c s u
  carried_more [] x a b c s t u same one = (
    c,
    u,
    subst (λ p. IsCarried {J = J} ring n w x p c s u) same.0
        (subst (λ q. IsCarried {J = J} ring n w x b c q u) same.1 one),
    (refl, refl),
  )
  carried_more (y ∷ ys) x a b c s t u done one =
      (done.0, done.1, done.2, carried_more ys x done.0 b c done.1 t u done.3 one)

  module _ (x : PresentValue) (context : DotSet) (value : List ℕ) (before after : SessionPart)
      (old new : Told J) (nothing : context ≡ set.empty) (same : value ≡ x.value) where
    behind_nothing : (result : Result (PutDone J) PutFault) →
        PutEndsAnew {J = J} (list_of ring n x.key) w x.key context (Some value) before
        after old new result → EndsBehindNothing {J = J} ring n w x before after old new result
    behind_nothing result ends =
        subst (λ d. PutEndsAnew {J = J} (list_of ring n x.key) w x.key d
        (Some x.value) before after old new result) nothing
        (subst (λ v. PutEndsAnew {J = J} (list_of ring n x.key) w x.key context
        (Some v) before after old new result) same ends)

    -- a put that was acknowledged
    pub carried_by : (result : Result (PutDone J) PutFault) →
        PutEndsAnew {J = J} (list_of ring n x.key) w x.key context (Some value) before
        after old new result →
        IfOk result (IsPutDone before after x.key w) →
        IfOk result (λ done. IsCarried {J = J} ring n w x before after old new)
    carried_by (Ok done) ends told =
        record { acked_put = done; ended_so = behind_nothing (Ok done) ends; told_of = told }
    carried_by (Err refused) ends told = tt

    -- a put that was refused
    pub refused_by : (result : Result (PutDone J) PutFault) →
        PutEndsAnew {J = J} (list_of ring n x.key) w x.key context (Some value) before
        after old new result →
        OnErr result (after ≡ before) →
        IfErr result (λ refused. (after ≡ before)
        × EndsBehindNothing {J = J} ring n w x before before old new (Err refused))
    refused_by (Ok done) ends stays = tt
    refused_by (Err refused) ends stays = (
      stays,
      subst (λ p. EndsBehindNothing {J = J} ring n w x before p old new (Err refused)) stays
          (behind_nothing (Err refused) ends),
    )
