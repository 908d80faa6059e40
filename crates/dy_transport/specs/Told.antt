-- What is told of one call: its tries, asks and answers.
use Rattle.std.specs.Prelude.{◌≡◌, ◌++◌, ◌<◌, ◌∷◌, [], List, ℕ, Bool, true, false, length}
use Rattle.std.specs.Prelude.{Option, None, Some, map, slice_get}
use Rattle.std.specs.List.{All, Contains}
use Rattle.dy_node.specs.declared.asks.Ask.{Ask}
use Rattle.dy_node.specs.declared.asks.Answer.{Answer}
use Rattle.dy_node.specs.declared.asks.Answer.TheVariants.{NoAnswer}
use Rattle.dy_transport.specs.Asking.{asked, FitsAsked}
use Rattle.dy_transport.specs.Snapshots.{snapshot_of}
use Rattle.dy_transport.specs.declared.asked.Asked.{Asked}
use Rattle.dy_transport.specs.declared.tries.Try.{Try}
use Rattle.dy_transport.specs.declared.replies.Reply.{Reply}

-- what was tried, asked and answered in one call; whether the last look for an answer since the
-- last ask found none; and for how many asks there is room
pub record Told (J : Type 0) : Type 0 where
  pub tries : List (Try J)
  pub asks : List Asked
  pub replies : List (Reply J)
  pub drained : Bool
  pub room : ℕ

module _ {J : Type 0} where
  -- at first nothing is told
  abbrev pub nothing_told : ℕ → Told J
  nothing_told room =
      record { tries = []; asks = []; replies = []; drained = false; room = room }

  -- with a try more
  abbrev pub with_try : Told J → Try J → Told J
  with_try t x = record t { tries = t.tries ++ x ∷ [] }

  -- with the try that was handed over, where there was one
  abbrev pub with_noted : Told J → Option (Try J) → Told J
  with_noted t None = t
  with_noted t (Some x) = with_try t x

  -- with an ask more, after the answers that were read so far
  abbrev pub with_ask : Told J → ℕ → Ask J → Told J
  with_ask t to a =
      record t { asks = t.asks ++ asked to a (length t.replies) ∷ []; drained = false }

  -- an answer as it is told
  abbrev pub reply : ℕ → ℕ → ℕ → Answer J → Reply J
  reply number node home x =
      record { number = number; node = node; home = home; answer = snapshot_of x }

  -- with an answer more
  abbrev pub with_reply : Told J → ℕ → ℕ → ℕ → Answer J → Told J
  with_reply t number node home x =
      record t { replies = t.replies ++ reply number node home x ∷ [] }

  -- no answer was left
  abbrev pub with_none : Told J → Told J
  with_none t = record t { drained = true }

  -- the answer is one to the ask of that number, which went to that node for that home
  abbrev pub Answers : List Asked → ℕ → ℕ → ℕ → Answer J → Type 0
  Answers asks number node home x =
      (a : Asked) × (slice_get asks number ≡ Some a) × (a.to ≡ node) × (a.home ≡ home)
      × FitsAsked a x

  -- whatever was read before of the ask of that number said that nothing came: a second answer
  -- follows only such a one
  abbrev pub IsAwaited : List (Reply J) → ℕ → Type 0
  IsAwaited replies number = All (λ r. r.number ≡ number → r.answer.value ≡ NoAnswer) replies

  -- each ask has an answer among those read
  abbrev pub AllAnswered : Told J → Type 0
  AllAnswered t = (k : ℕ) → k < length t.asks → Contains (map (λ r. r.number) t.replies) k
