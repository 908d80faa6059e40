-- What the audit tells of the book's world is what the same steps make.
use Rattle.std.proofs.Common.{◌≡◌, ℕ, ◌≤◌, ◌↔◌, IsTrue, List, sym, ◌∙◌, subst, arith}
use Rattle.std.proofs.lemmas.List.{length-map}
use Rattle.dy_dots.specs.declared.dots.Dot.{Dot}
use Rattle.dy_ring.specs.Rings.{Tokens}
use Rattle.dy_core.specs.Worlds.{Layout, empty_world, is_issued}
use Rattle.dy_core.specs.Logs.{IsLegal, world_after}
use Rattle.dy_core.specs.declared.steps.Step.{Step}
use Rattle.dy_core.proofs.Counters.{counters_used}
use Rattle.dy_shares.specs.Shares.{SessionPart, steps_of}
use Rattle.dy_shares.specs.Trails.{AreKept}
use Rattle.dy_shares.specs.declared.kept_steps.KeptStep.{KeptStep}
use Rattle.dy_cluster.specs.Ends.{AtRest, IsEndOf}
use Rattle.dy_cluster.specs.declared.resting.Closed.{Closed}
use Rattle.dy_replay.specs.Replays.{Agrees, IsMade, count_made, log_of}
use Rattle.dy_replay.proofs.Counting.{counted_from}

-- each last counter is the number of the issues
pub last_made : (ks : List KeptStep) (ss : List Step) → AreKept ks ss → (node : ℕ) (key : List ℕ) →
    (world_after ss).counters node key ≡ count_made ks node key
last_made ks ss all node key = let from = counted_from ks ss empty_world node key all in omega (arith, from)

-- and the versions made are those up to it
pub issued_made : (layout : Layout) (ks : List KeptStep) (ss : List Step) → IsLegal layout ss → AreKept ks ss → (key : List ℕ) (d : Dot) →
    IsTrue (is_issued (world_after ss).versions key d) ↔ IsMade ks key d
issued_made layout ks ss legal all key d =
    subst (λ (last : ℕ). IsTrue (is_issued (world_after ss).versions key d) ↔ ((1 ≤ d.counter) × (d.counter ≤ last)))
    (last_made ks ss all d.node key) (counters_used layout ss legal d.node key d.counter)

pub agrees : (ring : Tokens) (n r : ℕ) (c : AtRest) (tellings : List SessionPart) (closed : Closed) → IsEndOf ring n r c tellings closed →
    Agrees (log_of ring n c) closed.audit
agrees ring n r c tellings closed ends =
    let tells = ends.audit.tells in
    let history = tells.history in
    record {
      held = tells.held;
      acks = tells.acked.acks;
      covers = tells.acked.places;
      settled = tells.settled;
      steps = length-map c.book.log (λ e. e.step) ∙ sym tells.steps;
      issued = issued_made history.layout closed.audit.history.trail.items (steps_of c.book.log) history.legal history.kept;
      last = last_made closed.audit.history.trail.items (steps_of c.book.log) history.kept;
    }
