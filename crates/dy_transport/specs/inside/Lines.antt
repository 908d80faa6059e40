-- What a line of answers keeps beside what is told.
use Rattle.std.specs.Prelude.{◌≡◌, ◌≢◌, ◌++◌, ◌<◌, ◌≤◌, ◌+◌, ◌*◌, List, ℕ, length, map}
use Rattle.std.specs.List.{All, AllPairs, Contains}
use Rattle.dy_node.specs.declared.asks.Answer.TheVariants.{NoAnswer}
use Rattle.dy_transport.specs.declared.asked.Asked.{Asked}
use Rattle.dy_transport.specs.declared.replies.Reply.{Reply}
use Rattle.dy_transport.specs.declared.lines.Waiting.{Waiting}
use Rattle.dy_transport.specs.Told.{Answers, IsAwaited}

module _ {J : Type 0} where
  -- a waiting answer is one to the ask of its number
  abbrev pub IsAnswerIn : List Asked → Waiting J → Type 0
  IsAnswerIn asks w = Answers asks w.number w.node w.home w.answer

  -- the two waiting answers are of two asks
  abbrev pub AreOfTwoAsks : Waiting J → Waiting J → Type 0
  AreOfTwoAsks v w = v.number ≢ w.number

  -- no answer of the waiting one's ask was read
  abbrev pub IsNotRead : List (Reply J) → Waiting J → Type 0
  IsNotRead replies w = All (λ r. r.number ≢ w.number) replies

  -- where the other waits for the same ask, it is that nothing came
  abbrev pub IsBehind : Waiting J → Waiting J → Type 0
  IsBehind w v = v.number ≡ w.number → v.answer ≡ NoAnswer

  -- of the waiting one's ask only that nothing came was read, or waits as the first
  abbrev pub IsSecond : List (Reply J) → List (Waiting J) → Waiting J → Type 0
  IsSecond replies first w = IsAwaited replies w.number × All (IsBehind w) first

  -- the answers in line fit what was asked and read: each ask has a first answer, read or waiting;
  -- a second one waits only behind a first that nothing came
  pub record IsLine (asks : List Asked) (room : ℕ) (replies : List (Reply J))
      (first second : List (Waiting J)) : Type 0 where
    pub first_fit : All (IsAnswerIn asks) first
    pub second_fit : All (IsAnswerIn asks) second
    pub each : (k : ℕ) → k < length asks →
        Contains (map (λ r. r.number) replies ++ map (λ w. w.number) first) k
    pub known : All (λ r. r.number < length asks) replies
    pub unread : All (IsNotRead replies) first
    pub awaited : All (IsSecond replies first) second
    pub first_apart : AllPairs AreOfTwoAsks first
    pub second_apart : AllPairs AreOfTwoAsks second
    pub count : length replies + length first + length second ≤ 2 * length asks
    pub first_count : length first ≤ length asks
    pub second_count : length second ≤ length asks
    pub asks_count : length asks ≤ room
