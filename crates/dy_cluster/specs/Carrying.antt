-- What was present in a cluster that was closed, put into another.
use Rattle.std.specs.Prelude.{◌≡◌, ◌⊎◌, [], ◌∷◌, List, ℕ, Some, None, Result, Ok, Err, IsTrue}
use Rattle.std.specs.Prelude.{length, slice_get, take}
use Rattle.std.specs.List.{Contains}
use Rattle.std.specs.FinSet as set
use Rattle.dy_dots.specs.declared.dots.Dot.{Dot}
use Rattle.dy_dots.specs.declared.faults.Fault.TheVariants.{OutOfMemory}
use Rattle.dy_siblings.specs.Siblings.{newest}
use Rattle.dy_siblings.specs.Versions.{in_history}
use Rattle.dy_siblings.specs.declared.versions.Version.{Version}
use Rattle.dy_ring.specs.Rings.{Tokens}
use Rattle.dy_core.specs.declared.holdings.Holding.{Holding}
use Rattle.dy_shares.specs.Shares.{SessionPart}
use Rattle.dy_transport.specs.Told.{Told}
use Rattle.dy_coord.specs.PutDones.{IsPutDone}
use Rattle.dy_coord.specs.declared.put_results.PutDone.{PutDone}
use Rattle.dy_coord.specs.declared.put_results.PutFault.{PutFault}
use Rattle.dy_cluster.specs.Connections.{PutEndsAnew}
use Rattle.dy_cluster.specs.Lists.{list_of}
use Rattle.dy_cluster.specs.PresentValues.{ArePresent, versions_held}
use Rattle.dy_cluster.specs.declared.carrying.CarryFault.{CarryFault}
use Rattle.dy_cluster.specs.declared.values.PresentValue.{PresentValue}

-- of what was held, one of the newest versions of the key has the dot in its history, and these
-- values have its value, unless it is a deletion
pub record IsAmong (held : List Holding) (xs : List PresentValue) (key : List ℕ) (d : Dot)
    : Type 0 where
  pub version : Version
  pub is_newest : Contains (newest (versions_held held key)) version
  pub has : IsTrue (in_history version d)
  pub is_listed : (version.value ≡ None)
      ⊎ ((value : List ℕ) × (version.value ≡ Some value)
      × Contains xs (record { key = key; dot = version.dot; value = value }))

-- in a cluster of this ring with n homes a key, by puts that name w homes, over a transport that
-- tells first this and then that
module _ {J : Type 0} (ring : Tokens) (n : ℕ) (w : ℕ) where
  -- a put of the value with an empty context ended so
  abbrev pub EndsBehindNothing : PresentValue → SessionPart → SessionPart → Told J → Told J
      → Result (PutDone J) PutFault → Type 0
  EndsBehindNothing x before after old new result =
      PutEndsAnew {J = J} (list_of ring n x.key) w x.key set.empty (Some x.value) before after
      old new result

  -- the value was put behind nothing, and the session was told of it
  pub record IsCarried (x : PresentValue) (before after : SessionPart) (old new : Told J)
      : Type 0 where
    pub acked_put : PutDone J
    pub ended_so : EndsBehindNothing x before after old new (Ok acked_put)
    pub told_of : IsPutDone before after x.key w acked_put

  -- the values were put behind nothing, one after another, and the session was told of nothing else
  abbrev pub AreCarried : List PresentValue → SessionPart → SessionPart → Told J → Told J → Type 0
  AreCarried [] before after old new = (after ≡ before) × (new ≡ old)
  AreCarried (x ∷ xs) before after old new =
      (next : SessionPart) × (between : Told J) × IsCarried x before next old between
      × AreCarried xs next after between new

  -- memory was wanting before the first put was tried, and no version was made
  pub record IsUntried (before after : SessionPart) (old new : Told J) (e : CarryFault)
      : Type 0 where
    pub session_stays : after ≡ before
    pub transport_stays : new ≡ old
    pub count_is : e.count ≡ 0
    pub fault_is : e.refused.fault ≡ OutOfMemory
    pub dot_is : e.refused.dot ≡ None
    pub answers_are : e.refused.answers.items ≡ []

  -- as many of the values as it counts were put so, and nothing else; and the put of the next was
  -- refused so
  pub record StopsBehind (xs : List PresentValue) (before after : SessionPart) (old new : Told J)
      (e : CarryFault) : Type 0 where
    pub between : Told J
    pub are_carried : AreCarried (take e.count xs) before after old between
    pub next : PresentValue
    pub next_is : slice_get xs e.count ≡ Some next
    pub ended_so : EndsBehindNothing next after after between new (Err e.refused)

  -- the first of the values were put so, and the next was refused; or memory was wanting before
  abbrev pub StopsAt : List PresentValue → SessionPart → SessionPart → Told J → Told J
      → CarryFault → Type 0
  StopsAt xs before after old new e =
      StopsBehind xs before after old new e ⊎ IsUntried before after old new e

  -- all that is present of what was held was put so, in order, and nothing else; so many they are
  abbrev pub IsCarriedOver : List Holding → SessionPart → SessionPart → Told J → Told J → ℕ
      → Type 0
  IsCarriedOver held before after old new count =
      (xs : List PresentValue) × ArePresent held xs × (count ≡ length xs)
      × AreCarried xs before after old new

  -- so were the first of them, as many as it counts; or memory was wanting before the first put
  abbrev pub StopsCarrying : List Holding → SessionPart → SessionPart → Told J → Told J
      → CarryFault → Type 0
  StopsCarrying held before after old new e =
      ((xs : List PresentValue) × ArePresent held xs × StopsBehind xs before after old new e)
      ⊎ IsUntried before after old new e
