-- What is kept of a client's calls, one after another, and what carries the answers to them.
use Rattle.std.specs.Prelude.{◌≡◌, ◌<◌, ◌≤◌, ◌+◌, ◌*◌, ◌^◌, ℕ, Bool, true, false, length}
use Rattle.std.specs.Prelude.{Option, None, Some}
use Rattle.dy_node.specs.declared.asks.Answer.{Answer}
use Rattle.dy_sheets.specs.Sheets.{SheetParts}
use Rattle.dy_sheets.specs.declared.answered.Answered.{Answered}

-- what the answers to a client are seen as: for how many there is room, the number of the present
-- call, and how many asks of it may be answered
pub record CallParts : Type 0 where
  pub room : ℕ
  pub call : ℕ
  pub posted : ℕ

-- at first: the first call has number 0, and asked nobody
abbrev pub first_call : ℕ → CallParts
first_call room = record { room = room; call = 0; posted = 0 }

-- the next call, which asked nobody
abbrev pub next_call : CallParts → CallParts
next_call c = record { room = c.room; call = c.call + 1; posted = 0 }

-- one ask more may be answered
abbrev pub with_ask : CallParts → CallParts
with_ask c = record c { posted = c.posted + 1 }

module _ {J : Type 0} where
  -- an answer on its way back
  abbrev pub message : ℕ → ℕ → Answer J → Bool → Answered J
  message call number x is_last =
      record { call = call; number = number; answer = x; is_last = is_last }

  -- what carries the answers to an ask
  abbrev pub messages_of : ℕ → ℕ → Answer J → Option (Answer J) →
      Answered J × Option (Answered J)
  messages_of call number x None = (message call number x true, None)
  messages_of call number x (Some later) =
      (message call number x false, Some (message call number later true))

  -- the sheet is of the present call, of which it tells each ask that may be answered: so a sheet
  -- that tells none is of a call that asked nobody; and there is room for two answers to each ask,
  -- and for two of each worker
  pub record AreOfOneCall (sheet : SheetParts J) (replies : CallParts) (workers : ℕ) : Type 0 where
    pub one_call : sheet.call ≡ replies.call
    pub few : sheet.told.room < 2 ^ 32
    pub some : 0 < sheet.told.room
    pub of_asks : replies.posted ≤ length sheet.told.asks
    pub answers : 2 * (sheet.told.room + workers) ≤ replies.room
