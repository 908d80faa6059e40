-- What a put that was acknowledged told its session.
use Rattle.std.specs.Prelude.{◌≡◌, List, ℕ}
use Rattle.dy_shares.specs.Shares.{SessionPart}
use Rattle.dy_transport.specs.Tellings.{IsAckTold}
use Rattle.dy_coord.specs.declared.put_results.PutDone.{PutDone}

-- the session was told of this put: one ack more, of the key and of its dot, with the number of
-- homes that was named, by the step that it names, for which the receipts that it has were spent
pub record IsPutDone {J : Type 0} (before after : SessionPart) (key : List ℕ) (w : ℕ)
    (done : PutDone J) : Type 0 where
  pub tells : IsAckTold before after key done.dot w done.spent.items
  pub at_is : done.at ≡ tells.at
