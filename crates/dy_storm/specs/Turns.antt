-- What a client does in one turn.
use Rattle.std.specs.Prelude.{◌≡◌, ◌⊎◌, ℕ, zero, suc, ◌%◌, List, Option, Some, None, Result}
use Rattle.std.specs.Prelude.{Bool, IsTrue, unwrap_or}
use Rattle.std.specs.FinSet as set
use Rattle.dy_dots.specs.Dots.{DotSet}
use Rattle.dy_preference.specs.Preferences.{Preferred}
use Rattle.dy_shares.specs.Shares.{SessionPart, since_of, with_get}
use Rattle.dy_quorum.specs.Gatherings.{first_answers}
use Rattle.dy_transport.specs.Told.{Told, nothing_told}
use Rattle.dy_reads.specs.Lists.{homes_in}
use Rattle.dy_coord.specs.Gets.{IsGot}
use Rattle.dy_coord.specs.PutEnds.{PutEnds}
use Rattle.dy_coord.specs.declared.get_done.GetDone.{GetDone}
use Rattle.dy_coord.specs.declared.put_results.PutDone.{PutDone}
use Rattle.dy_coord.specs.declared.put_results.PutFault.{PutFault}
use Rattle.dy_repair.specs.Stales.{AreCurrent}
use Rattle.dy_cluster.specs.Connections.{IsMended}
use Rattle.dy_cluster.specs.Lists.{list_of}
use Rattle.dy_cluster.specs.Settings.{Setting}
use Rattle.dy_cluster.specs.Tellings.{IsUntold}
use Rattle.rand_pcg.specs.Lcg.{Lcg}
use Rattle.rand_pcg.specs.Pcg.{pcg32}
use Rattle.dy_storm.specs.Words.{key_text, value_text}

-- a get of the key was answered so, and the session was told of it
pub record HasGot (J : Type 0) (list : Preferred) (r : ℕ) (key : List ℕ) (done : GetDone J)
    (before after : SessionPart) : Type 0 where
  pub told : Told J
  pub got : IsGot list key r (since_of before) told done
  pub heard : after ≡ with_get before (since_of before) (first_answers done.seen.items)

-- what the get found stale is mended, as the transport then tells, if it is said so; and it is said
-- so where nothing was stale
pub record MendsAsSaid (J : Type 0) (list : Preferred) (done : GetDone J) (told after : Told J)
    (is_mended : Bool) : Type 0 where
  pub mended : IsTrue is_mended → IsMended (homes_in list) done.row done.seen.items told after
  pub current : AreCurrent done.row done.seen.items → IsTrue is_mended

-- a get of the key was answered with this context, and mended; or the session was told nothing
abbrev pub IsGetOf : (J : Type 0) → Preferred → ℕ → List ℕ → Option DotSet
    → SessionPart → SessionPart → Told J → Bool → Type 0
IsGetOf J list r key None before after mending is_mended = after ≡ before
IsGetOf J list r key (Some context) before after mending is_mended =
    (done : GetDone J) × (context ≡ done.context)
    × ((got : HasGot J list r key done before after)
    × MendsAsSaid J list done got.told mending is_mended)

-- a put that names two homes was answered, over a transport that told nothing yet
pub record HasPut (J : Type 0) (list : Preferred) (key : List ℕ) (context : DotSet)
    (value : List ℕ) (before after : SessionPart) : Type 0 where
  pub room : ℕ
  pub told : Told J
  pub answer : Result (PutDone J) PutFault
  pub ends : PutEnds {J = J} list 2 key context (Some value) before after
      (nothing_told room) told answer

-- a put was answered, or the session was told nothing
abbrev pub IsPutOf : Type 0 → Preferred → List ℕ → DotSet → List ℕ
    → SessionPart → SessionPart → Type 0
IsPutOf J list key context value before after =
    HasPut J list key context value before after ⊎ (after ≡ before)

-- a turn gets the key, mends what was stale, and then puts this value with the context of the get,
-- which is empty where the get was refused; it is said whether the get was mended
pub record IsTurnOf (s : Setting) (key value : List ℕ) (before after : SessionPart)
    (is_mended : Bool) : Type 0 where
  pub context : Option DotSet
  pub between : SessionPart
  pub mending : Told s.book
  pub gets : IsGetOf s.book (list_of s.ring s.n key) s.r key context before between mending
      is_mended
  pub puts : IsPutOf s.book (list_of s.ring s.n key) key (unwrap_or context set.empty) value
      between after

-- the generator after so many draws
abbrev pub after_draws : Lcg → ℕ → Lcg
after_draws generator zero = generator
after_draws generator (suc n) = (pcg32 (after_draws generator n)).1

-- the number of the key that is drawn after so many draws, one of sixteen
abbrev pub key_drawn : Lcg → ℕ → ℕ
key_drawn generator n = (pcg32 (after_draws generator n)).0 % 16

-- the session was told nothing but by so many turns of this client, each of the key that is drawn
-- for it
abbrev pub AreTurns : Setting → Lcg → ℕ → ℕ → SessionPart → Type 0
AreTurns s generator client zero session = IsUntold session
AreTurns s generator client (suc turn) session =
    (before : SessionPart) × AreTurns s generator client turn before
    × ((is_mended : Bool) × IsTurnOf s (key_text (key_drawn generator turn))
    (value_text client turn) before session is_mended)
