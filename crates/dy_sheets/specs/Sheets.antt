-- What a sheet of asks keeps beside what is told.
use Rattle.std.specs.Prelude.{◌≡◌, ◌<◌, ◌≤◌, ◌+◌, ◌-◌, ◌*◌, ◌++◌, List, [], ◌∷◌, ℕ, length, map}
use Rattle.std.specs.Prelude.{Bool, true, false, Option, None, Some, get_or, nat_lt, set, slice_get}
use Rattle.std.specs.List.{All, Contains, list_any, sum}
use Rattle.dy_dots.specs.declared.faults.Fault.TheVariants.{OutOfMemory}
use Rattle.dy_node.specs.declared.asks.Ask.{Ask}
use Rattle.dy_node.specs.declared.asks.Answer.{Answer}
use Rattle.dy_node.specs.declared.asks.Answer.TheVariants as answer
use Rattle.dy_transport.specs.Asking.{IsSeenAt, home_of}
use Rattle.dy_transport.specs.Told.{IsAwaited, Told, nothing_told, with_ask, with_reply}
use Rattle.dy_transport.specs.declared.asked.Asked.{Asked}
use Rattle.dy_transport.specs.declared.replies.Reply.{Reply}
use Rattle.dy_sheets.specs.Kept.{IsKept, dots_in, receipts_at}
use Rattle.dy_sheets.specs.declared.kept.Kept.{Kept}
use Rattle.dy_sheets.specs.declared.kept.Kept.TheVariants.{Store, Fetch}
use Rattle.dy_sheets.specs.declared.sent.Sent.{Sent}

-- what a sheet is seen as: what is told, the number of its call, and of each ask what is kept of it
-- and how many answers to it may still be handed on
pub record SheetParts (J : Type 0) : Type 0 where
  pub told : Told J
  pub call : ℕ
  pub sent : List Sent
  pub left : List ℕ

-- whether an answer may still come
abbrev pub is_awaiting : List ℕ → Bool
is_awaiting left = list_any (λ count. nat_lt 0 count) left

-- the ask of this number is not on its way, and has no answer yet
abbrev pub IsUnsent : List Sent → List ℕ → ℕ → Sent → Type 0
IsUnsent sent left k s =
    (slice_get sent k ≡ Some s) × (s.is_posted ≡ false) × (get_or left k 0 ≡ 2)

-- what is kept of an ask is of that ask
abbrev pub IsSent : Asked → Sent → Type 0
IsSent a s = (a.to ≡ s.to) × (a.home ≡ s.home) × IsKept a.what s.kept

-- of each ask in turn
abbrev pub AllSent : List Asked → List Sent → Type 0
AllSent [] [] = Unit {0}
AllSent [] (s ∷ sent) = ⊥
AllSent (a ∷ asks) [] = ⊥
AllSent (a ∷ asks) (s ∷ sent) = IsSent a s × AllSent asks sent

module _ {J : Type 0} where
  -- a sheet of nothing, for the call of this number
  abbrev pub nothing_on_sheet : ℕ → ℕ → SheetParts J
  nothing_on_sheet room call =
      record { told = nothing_told room; call = call; sent = []; left = [] }

  -- the sheet with this told
  abbrev pub with_told : SheetParts J → Told J → SheetParts J
  with_told s told = record s { told = told }

  -- the sheet with an ask more, of which this is kept, and to which two answers may come
  abbrev pub with_sent : SheetParts J → ℕ → Ask J → Option Kept → Bool → SheetParts J
  with_sent s to a kept is_posted =
      record s {
        told = with_ask s.told to a;
        sent = s.sent
            ++ record { to = to; home = home_of a; kept = kept; is_posted = is_posted } ∷ [];
        left = s.left ++ 2 ∷ [];
      }

  -- the sheet with an answer more, to the ask of this number, to which so many are left
  abbrev pub with_answer : SheetParts J → ℕ → ℕ → ℕ → Answer J → ℕ → SheetParts J
  with_answer s number node home x left =
      record s {
        told = with_reply s.told number node home x;
        left = set s.left number left;
      }

  -- how many answers are left of so many, once this one is handed on: one less where it said that
  -- nothing came and is not the last, else none
  abbrev pub left_of : ℕ → Answer J → Bool → ℕ
  left_of left (answer.Stored receipts) is_last = 0
  left_of left (answer.Rows seen) is_last = 0
  left_of left answer.Down is_last = 0
  left_of left answer.NoAnswer true = 0
  left_of left answer.NoAnswer false = left - 1
  left_of left (answer.Refused f) is_last = 0

  -- what is answered to an ask that is not on its way: refused where there was no memory to keep
  -- it, else that nothing came
  abbrev pub answer_unsent : Option Kept → Answer J
  answer_unsent None = answer.Refused OutOfMemory
  answer_unsent (Some k) = answer.NoAnswer

  -- the answer is one of this node, for this home, to the ask of which this was kept
  abbrev pub FitsKept : ℕ → ℕ → Kept → Answer J → Type 0
  FitsKept to home (Store key dots) (answer.Stored receipts) =
      receipts.items ≡ receipts_at key (dots_in dots) to home
  FitsKept to home (Store key dots) (answer.Rows seen) = ⊥
  FitsKept to home (Fetch key since) (answer.Stored receipts) = ⊥
  FitsKept to home (Fetch key since) (answer.Rows seen) = IsSeenAt to home key since seen
  FitsKept to home k answer.Down = Unit {0}
  FitsKept to home k answer.NoAnswer = Unit {0}
  FitsKept to home k (answer.Refused f) = Unit {0}

  -- no receipts and no row fit an ask of which nothing was kept
  abbrev pub FitsNothing : Answer J → Type 0
  FitsNothing (answer.Stored receipts) = ⊥
  FitsNothing (answer.Rows seen) = ⊥
  FitsNothing answer.Down = Unit {0}
  FitsNothing answer.NoAnswer = Unit {0}
  FitsNothing (answer.Refused f) = Unit {0}

  -- the answer is one of this node, for this home, to what was kept, if anything was
  abbrev pub FitsAnyKept : ℕ → ℕ → Option Kept → Answer J → Type 0
  FitsAnyKept to home None x = FitsNothing x
  FitsAnyKept to home (Some k) x = FitsKept to home k x

  -- the answer is one to what was kept
  abbrev pub FitsSent : Sent → Answer J → Type 0
  FitsSent s x = FitsAnyKept s.to s.home s.kept x

  -- what is handed on of an answer: itself where it is one to what was kept, else that nothing came
  pub record IsFitted (s : Sent) (x given : Answer J) : Type 0 where
    pub fits : FitsSent s x → given ≡ x
    pub other : (FitsSent s x → ⊥) → given ≡ answer.NoAnswer

  -- the same, of the answer to the ask of this number
  abbrev pub IsFittedTo : List Sent → ℕ → Answer J → Answer J → Type 0
  IsFittedTo sent number x given =
      (s : Sent) × (slice_get sent number ≡ Some s) × IsFitted s x given

  -- an ask that was not on its way is answered by its reason
  abbrev pub IsOfUnsent : SheetParts J → Answer J → Type 0
  IsOfUnsent sheet x =
      (k : ℕ) × (s : Sent) × IsUnsent sheet.sent sheet.left k s × (x ≡ answer_unsent s.kept)

  -- of each ask what it was, and how many answers to it may still be handed on: where fewer than
  -- two may, one was read; where any may, only that nothing came was read
  pub record IsSheet (asks : List Asked) (room : ℕ) (replies : List (Reply J))
      (sent : List Sent) (left : List ℕ) : Type 0 where
    pub each_sent : AllSent asks sent
    pub left_count : length left ≡ length asks
    pub sent_count : length sent ≡ length asks
    pub each : (k : ℕ) → k < length asks → (get_or left k 0 ≡ 2 → ⊥) →
        Contains (map (λ r. r.number) replies) k
    pub awaited : (k : ℕ) → k < length asks → 0 < get_or left k 0 → IsAwaited replies k
    pub known : All (λ r. r.number < length asks) replies
    pub count : length replies + sum left ≤ 2 * length asks
    pub asks_count : length asks ≤ room
