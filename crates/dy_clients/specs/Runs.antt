-- How clients ran.
use Rattle.std.specs.Prelude.{◌≡◌, ◌↔◌, ◌⊎◌, ℕ, List, Result, length, IfOk, IfErr, IsErrOf}
use Rattle.dy_dots.specs.declared.faults.Fault.{Fault}
use Rattle.dy_dots.specs.declared.faults.Fault.TheVariants.{TooMany, BadQuorum}
use Rattle.dy_ring.specs.Rings.{Tokens}
use Rattle.dy_shares.specs.Shares.{SessionPart}
use Rattle.dy_book.specs.Limits.{AreLimits, IsQuorum}
use Rattle.dy_book.specs.declared.options.Options.{Options}
use Rattle.dy_cluster.specs.Ends.{IsClosed}
use Rattle.dy_cluster.specs.Stores.{TellsStores}
use Rattle.dy_clients.specs.Refusals.{IsRunRefusal}
use Rattle.dy_clients.specs.Tellings.{AreAnswered, ClientSaying, as_answered}
use Rattle.dy_clients.specs.declared.clients_done.ClientsDone.{ClientsDone}

-- a cluster of this ring and these options was closed with the session of each of so many clients;
-- of each client's answer and session it is said so
pub record HaveRun (ring : Tokens) (options : Options) (clients : ℕ)
    (says : ClientSaying) (done : ClientsDone) : Type 0 where
  pub tellings : List SessionPart
  pub closed : IsClosed ring options.n options.r tellings done.closed
  pub options_are : done.closed.options ≡ options
  pub sessions : length tellings ≡ clients
  pub answers : length done.answers.items ≡ clients
  pub told : AreAnswered (as_answered says) done.answers.items tellings

-- a run of so many clients on a ring, by these options, ends so: its audit tells what the stores
-- keep, and of each client's answer and session it is said so; limits out of range are refused, and
-- then numbers that don't fit the ring; and few other refusals can be
pub record EndsRun (ring : Tokens) (options : Options) (clients : ℕ)
    (says : ClientSaying) (result : Result ClientsDone Fault) : Type 0 where
  pub stores : IfOk result (λ done. TellsStores ring options.n done.closed)
  pub closed : IfOk result (HaveRun ring options clients says)
  pub too_many : ¬ (AreLimits options) → IsErrOf result TooMany
  pub bad_quorum :
      IsErrOf result BadQuorum ↔ (AreLimits options × ¬ (IsQuorum options ring.nodes))
  pub only : IfErr result (λ fault. (fault ≡ BadQuorum) ⊎ IsRunRefusal fault)
