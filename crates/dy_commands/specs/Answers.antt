-- How the outcome of a command comes from what a cluster's call answered.
use Rattle.std.specs.Prelude.{◌≡◌, ◌≢◌, ◌≤◌, ◌⊎◌, ℕ, List, map, Option, None, Result, Ok, Err}
use Rattle.std.specs.Prelude.{IfOk, IfErr, OnErr, IsOk, IsOkUnless}
use Rattle.std.specs.declared.alloc.Global.{Global}
use Rattle.std.specs.declared.vec.Vec.{Vec}
use Rattle.dy_dots.specs.Dots.{DotSet}
use Rattle.dy_dots.specs.declared.faults.Fault.{Fault}
use Rattle.dy_dots.specs.declared.faults.Fault.TheVariants.{Down, NotEnough, OutOfMemory, TooMany}
use Rattle.dy_dots.specs.declared.nodes.TheConstants.{MAX_NODES}
use Rattle.dy_ring.specs.Rings.{Tokens}
use Rattle.dy_siblings.specs.Siblings.{Siblings, own_dots}
use Rattle.dy_siblings.specs.Sizes.{IsKey}
use Rattle.dy_preference.specs.Preferences.{Preferred}
use Rattle.dy_shares.specs.Shares.{SessionPart, since_of, with_get}
use Rattle.dy_quorum.specs.Gatherings.{first_answers}
use Rattle.dy_transport.specs.Told.{Told, nothing_told}
use Rattle.dy_reads.specs.Lists.{homes_in}
use Rattle.dy_coord.specs.Gets.{IsGetRefused, IsGot}
use Rattle.dy_coord.specs.PutEnds.{PutEnds}
use Rattle.dy_coord.specs.declared.get_done.GetDone.{GetDone}
use Rattle.dy_coord.specs.declared.get_faults.GetFault.{GetFault}
use Rattle.dy_coord.specs.declared.put_results.PutDone.{PutDone}
use Rattle.dy_coord.specs.declared.put_results.PutFault.{PutFault}
use Rattle.dy_repair.specs.Stales.{AreCurrent}
use Rattle.dy_handoff.specs.Passes.{IsPass}
use Rattle.dy_handoff.specs.declared.counts.Pass.{Pass}
use Rattle.dy_cluster.specs.Connections.{IsMended}
use Rattle.dy_cluster.specs.Deliveries.{IsDelivery, IsDeliveryRefusal}
use Rattle.dy_cluster.specs.Named.{IsNodeOf}
use Rattle.dy_cluster.specs.Shows.{IsShow}
use Rattle.dy_lines.specs.declared.keeping.Kept.{Kept}
use Rattle.dy_lines.specs.declared.outcomes.Outcome.{Outcome}
use Rattle.dy_lines.specs.declared.outcomes.Outcome.TheVariants.{Stored, Read, Lacking, Refused}
use Rattle.dy_lines.specs.declared.outcomes.Outcome.TheVariants.{Delivered, HandedOver, Shown}
use Rattle.dy_lines.specs.declared.outcomes.Word.{Word}
use Rattle.dy_lines.specs.declared.outcomes.Word.TheVariants as word
use Rattle.dy_commands.specs.Texts.{IsKeyRefused}

-- the outcome of a delivery
abbrev pub delivery_outcome : Result ℕ Fault → Outcome
delivery_outcome (Ok count) = Delivered count
delivery_outcome (Err f) = Refused word.Deliver f None

-- the outcome of a pass
abbrev pub pass_outcome : Result Pass Fault → Outcome
pass_outcome (Ok pass) = HandedOver pass.offers pass.stored pass.released
pass_outcome (Err f) = Refused word.Handoff f None

-- what is kept of a row: its home, and the versions' own dots
abbrev pub kept_row : ℕ × Siblings → Kept
kept_row row = record { home = row.0; dots = own_dots row.1.versions }

-- the outcome tells what a delivery at this node answered: it was one, or was refused, as where the
-- ring has no such node
pub record IsDeliveryTold (ring : Tokens) (node : ℕ) (outcome : Outcome) : Type 0 where
  pub answer : Result ℕ Fault
  pub down : ¬ (IsNodeOf ring node) → answer ≡ Err Down
  pub ok : IfOk answer IsDelivery
  pub only : IfErr answer IsDeliveryRefusal
  pub tells : outcome ≡ delivery_outcome answer

-- the outcome tells what a pass at this node answered: it was one, which stored no more than it
-- offered, or it was refused for a node that is down, as one that the ring has not, or for memory
pub record IsPassTold (J : Type 0) (ring : Tokens) (node : ℕ) (outcome : Outcome) : Type 0 where
  pub answer : Result Pass Fault
  pub down : ¬ (IsNodeOf ring node) → answer ≡ Err Down
  pub ok : IfOk answer (λ pass. (told : Told J) × IsPass {J = J} node told pass)
  pub fewer : IfOk answer (λ pass. pass.stored ≤ pass.offers)
  pub only : IfErr answer (λ f. (f ≡ Down) ⊎ (f ≡ OutOfMemory))
  pub tells : outcome ≡ pass_outcome answer

-- the outcome tells what a node keeps of the key, as what is kept of this one
pub record TellsRows (ring : Tokens) (number : ℕ) (key : List ℕ) (outcome : Outcome) : Type 0 where
  pub node : IsNodeOf ring number
  pub sized : IsKey key
  pub rows : List (ℕ × Siblings)
  pub shown : IsShow key rows
  pub kept : Vec Kept Global
  pub kept_are : kept.items ≡ map kept_row rows
  pub tells : outcome ≡ Shown number kept

-- why a show is refused: the ring has no such node, or else its key is refused
abbrev pub IsShowRefused : Tokens → ℕ → List ℕ → Fault → Type 0
IsShowRefused ring number key f =
    (¬ (IsNodeOf ring number) × (f ≡ Down)) ⊎ (IsNodeOf ring number × IsKeyRefused key f)

-- the outcome tells what the node keeps of the key, or why that is refused
abbrev pub IsShowTold : Tokens → ℕ → List ℕ → Outcome → Type 0
IsShowTold ring number key outcome =
    TellsRows ring number key outcome
    ⊎ ((f : Fault) × IsShowRefused ring number key f × (outcome ≡ Refused word.Show f None))

module _ {J : Type 0} where
  -- the outcome tells the answer of a put: its dot and its answers, or its refusal, with all
  -- answers where there were not enough, and else with the version that it made, where it made one
  abbrev pub TellsPut : Word → Result (PutDone J) PutFault → Outcome → Type 0
  TellsPut word (Ok done) outcome = outcome ≡ Stored word done.dot done.answers
  TellsPut word (Err e) outcome =
      (e.fault ≡ NotEnough → outcome ≡ Lacking word e.dot e.answers)
      × (e.fault ≢ NotEnough → outcome ≡ Refused word e.fault e.dot)

  -- the outcome tells the answer of a get: its context, whose rows it used, and the merged row, or
  -- its refusal, with all answers where there were not enough
  abbrev pub TellsGet : Result (GetDone J) GetFault → Outcome → Type 0
  TellsGet (Ok done) outcome = outcome ≡ Read done.context done.from done.row
  TellsGet (Err e) outcome =
      (e.fault ≡ NotEnough → outcome ≡ Lacking word.Get None e.answers)
      × (e.fault ≢ NotEnough → outcome ≡ Refused word.Get e.fault None)

-- the outcome tells what a put of these answered, and so ended the session's part in it
pub record IsPutTold (J : Type 0) (list : Preferred) (w : ℕ) (key : List ℕ) (context : DotSet)
    (value : Option (List ℕ)) (word : Word) (outcome : Outcome)
    (before after : SessionPart) : Type 0 where
  pub told : Told J
  pub answer : Result (PutDone J) PutFault
  pub ends :
      PutEnds {J = J} list w key context value before after (nothing_told MAX_NODES) told answer
  pub tells : TellsPut word answer outcome

-- what a get over a transport that told this found stale was mended; or memory was wanting for
-- that, which it never is where nothing was stale
pub record IsMendTried (J : Type 0) (list : Preferred) (told : Told J)
    (done : GetDone J) : Type 0 where
  pub after : Told J
  pub answer : Result (Unit {0}) Fault
  pub ok : IfOk answer (λ _. IsMended (homes_in list) done.row done.seen.items told after)
  pub memory : IsOkUnless answer OutOfMemory
  pub spared : AreCurrent done.row done.seen.items → IsOk answer

-- the outcome tells what a get of the key answered, and so ended the session's part in it
pub record IsGetTold (J : Type 0) (list : Preferred) (r : ℕ) (key : List ℕ) (outcome : Outcome)
    (before after : SessionPart) : Type 0 where
  pub told : Told J
  pub answer : Result (GetDone J) GetFault
  pub got : IfOk answer (λ done. IsGot list key r (since_of before) told done)
  pub heard : IfOk answer (λ done.
      after ≡ with_get before (since_of before) (first_answers done.seen.items))
  pub mended : IfOk answer (IsMendTried J list told)
  pub unheard : OnErr answer (after ≡ before)
  pub refused : IfErr answer (λ e. IsGetRefused list key r (since_of before) told e)
  pub tells : TellsGet answer outcome

-- the session was refused, so nobody was tried
abbrev pub IsUnseated : Word → Outcome → List SessionPart → List SessionPart → Type 0
IsUnseated word outcome before after =
    (after ≡ before)
    × ((f : Fault) × ((f ≡ OutOfMemory) ⊎ (f ≡ TooMany)) × (outcome ≡ Refused word f None))
