-- What a session is told of an ack.
use Rattle.std.specs.Prelude.{◌≡◌, ◌<◌, List, ℕ}
use Rattle.dy_dots.specs.declared.dots.Dot.{Dot}
use Rattle.dy_core.specs.declared.steps.Step.TheVariants.{Ack}
use Rattle.dy_shares.specs.Shares.{ReceiptParts, SessionPart, since_of, with_ack}

-- the session was told one ack more, of the key and the dot, with this number of homes, for which
-- these receipts were spent; its step is later than all that the session was told before
pub record IsAckTold (before after : SessionPart) (key : List ℕ) (dot : Dot) (w : ℕ)
    (spent : List ReceiptParts) : Type 0 where
  pub at : ℕ
  pub later : since_of before < at
  pub told : after ≡ with_ack before at (Ack key dot w) spent
