-- What calls by a list require of a transport, and how they end, where it tells first this and then
-- that.
use Rattle.std.specs.Prelude.{◌≡◌, ◌≤◌, [], List, ℕ, Option, Result, IfOk, IfErr, OnErr}
use Rattle.dy_dots.specs.Dots.{DotSet}
use Rattle.dy_dots.specs.declared.nodes.TheConstants.{MAX_NODES}
use Rattle.dy_preference.specs.Preferences.{Preferred}
use Rattle.dy_shares.specs.Shares.{SessionPart, since_of, with_get}
use Rattle.dy_quorum.specs.Gatherings.{first_answers}
use Rattle.dy_transport.specs.Told.{Told}
use Rattle.dy_coord.specs.Gets.{IsGetRefused, IsGot}
use Rattle.dy_coord.specs.PutDones.{IsPutDone}
use Rattle.dy_coord.specs.PutEnds.{PutEnds}
use Rattle.dy_coord.specs.declared.get_done.GetDone.{GetDone}
use Rattle.dy_coord.specs.declared.get_faults.GetFault.{GetFault}
use Rattle.dy_coord.specs.declared.put_results.PutDone.{PutDone}
use Rattle.dy_coord.specs.declared.put_results.PutFault.{PutFault}

module _ {J : Type 0} where
  -- nobody was asked or answered yet, and there is room to ask each node
  pub record IsUnasked (told : Told J) : Type 0 where
    pub asks : told.asks ≡ []
    pub replies : told.replies ≡ []
    pub room : MAX_NODES ≤ told.room

  -- nothing was tried meanwhile, and the room is the same
  pub record KeepsTries (old new : Told J) : Type 0 where
    pub tries : new.tries ≡ old.tries
    pub room : new.room ≡ old.room

  -- a put by this list ended so: an Ok told the session of it, and a refusal told it nothing
  pub record PutsBy (list : Preferred) (w : ℕ) (key : List ℕ) (context : DotSet)
      (value : Option (List ℕ)) (before after : SessionPart) (old new : Told J)
      (result : Result (PutDone J) PutFault) : Type 0 where
    pub ends : PutEnds {J = J} list w key context value before after old new result
    pub ok : IfOk result (IsPutDone before after key w)
    pub err : OnErr result (after ≡ before)
    pub room : new.room ≡ old.room

  -- a get by this list that needs r homes ended so: it is answered, and the session was told of it,
  -- or it is refused, and the session was told nothing
  pub record GetsBy (list : Preferred) (key : List ℕ) (r : ℕ) (before after : SessionPart)
      (old new : Told J) (result : Result (GetDone J) GetFault) : Type 0 where
    pub ok : IfOk result (λ done. IsGot list key r (since_of before) new done)
    pub told : IfOk result (λ done.
        after ≡ with_get before (since_of before) (first_answers done.seen.items))
    pub err : OnErr result (after ≡ before)
    pub room : new.room ≡ old.room
    pub refused : IfErr result (λ e. IsGetRefused list key r (since_of before) new e)
