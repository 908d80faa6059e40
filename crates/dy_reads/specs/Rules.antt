-- Whom a put and a get ask, answer by answer.
use Rattle.std.specs.Prelude.{◌≡◌, ◌++◌, ◌∷◌, ◌<◌, ◌≤◌, ◌+◌, ◌*◌, ◌⊎◌, [], List, ℕ, Bool}
use Rattle.std.specs.Prelude.{true, false, suc, Some, IsTrue, length, map, slice_get}
use Rattle.std.specs.Prelude.{if◌then◌else◌}
use Rattle.std.specs.List.{All, Contains}
use Rattle.dy_ring.specs.Rings.{Tokens}
use Rattle.dy_preference.specs.Preferences.{Preferred, home_for, homes_of, may_hold}
use Rattle.dy_preference.specs.Preferences.{stand_ins_of}
use Rattle.dy_node.specs.declared.asks.Answer.{Answer}
use Rattle.dy_node.specs.declared.asks.Answer.TheVariants.{Stored, Rows, Down, NoAnswer, Refused}
use Rattle.dy_transport.specs.Kinds.{kind_of}
use Rattle.dy_transport.specs.Snapshots.{snapshot_of}
use Rattle.dy_transport.specs.Told.{AllAnswered, Answers, Told, reply}
use Rattle.dy_transport.specs.declared.asked.Asked.{Asked}
use Rattle.dy_transport.specs.declared.asked.What.{What}
use Rattle.dy_transport.specs.declared.asked.What.TheVariants.{Store, Fetch}
use Rattle.dy_core.specs.declared.answers.AnswerRead.{AnswerRead}
use Rattle.dy_transport.specs.declared.replies.Reply.{Reply}
use Rattle.dy_reads.specs.Lists.{asked_homes, homes_in}
use Rattle.dy_reads.specs.declared.requests.Request.{Request}
use Rattle.dy_reads.specs.declared.requests.Request.TheVariants as request

-- the ask of a node for a home, after so many answers
abbrev pub ask_of : What → ℕ → ℕ → ℕ → Asked
ask_of what to home read = record { to = to; home = home; what = what; read = read }

-- the nodes that were asked
abbrev pub nodes_asked : List Asked → List ℕ
nodes_asked asks = map (λ a. a.to) asks

-- the homes that were asked for
abbrev pub homes_asked : List Asked → List ℕ
homes_asked asks = map (λ a. a.home) asks

-- the asks to the homes, each for itself and before any answer was read, but for the one that the
-- coordinator holds for
abbrev pub home_asks : What → ℕ → List ℕ → List Asked
home_asks what held homes = map (λ home. ask_of what home home 0) (asked_homes held homes)

-- with what a call with this coordinator begins: the asks to the homes, and those who may stand in
abbrev pub first_asks : Preferred → What → ℕ → List Asked × List ℕ
first_asks list what c =
    (home_asks what (home_for (homes_in list) c) (homes_in list), stand_ins_of list.nodes list.n c)

-- one ask more, after so many answers, to the first of the nodes that are left, for this home
abbrev pub next_stand_in : What → ℕ → List Asked → List ℕ → ℕ → List Asked × List ℕ
next_stand_in what read asks [] home = (asks, [])
next_stand_in what read asks (s ∷ left) home = (asks ++ ask_of what s home read ∷ [], left)

-- an ask after that of this number, for the home
abbrev pub IsAskedLater : List Asked → ℕ → ℕ → Type 0
IsAskedLater asks number home =
    (m : ℕ) × (a : Asked) × (number < m) × (slice_get asks m ≡ Some a) × (a.home ≡ home)

module _ {J : Type 0} where
  -- what a call asks of every node
  abbrev pub requested : Request J → What
  requested (request.Store row) = Store (snapshot_of row.now)
  requested (request.Fetch key since) = Fetch (snapshot_of key.now) since.now

  -- the node may be asked for the home: to hold a row, where it may hold it
  abbrev pub MayRequest : Tokens → ℕ → Request J → ℕ → ℕ → Type 0
  MayRequest ring n (request.Store row) node home =
      IsTrue (may_hold (homes_of ring n row.now.key) node home)
  MayRequest ring n (request.Fetch key since) node home = Unit {0}

  -- each node that is left may be asked for each home that was asked for
  abbrev pub MayStandIn : Tokens → ℕ → Request J → List Asked → List ℕ → Type 0
  MayStandIn ring n r asks left =
      (home : ℕ) → Contains (homes_asked asks) home →
      All (λ node. MayRequest ring n r node home) left

  -- the answer is what was asked for
  abbrev pub is_served : What → Answer J → Bool
  is_served (Store row) (Stored receipts) = true
  is_served (Store row) (Rows seen) = false
  is_served (Fetch key since) (Stored receipts) = false
  is_served (Fetch key since) (Rows seen) = true
  is_served what Down = false
  is_served what NoAnswer = false
  is_served what (Refused fault) = false

  -- what an answer leads to, where so many are read with it: if it is not what was asked for, the
  -- next node is asked for the same home
  abbrev pub after_answer : What → ℕ → List Asked × List ℕ → ℕ → Answer J → List Asked × List ℕ
  after_answer what read p home answer =
      if is_served what answer then p else next_stand_in what read p.0 p.1 home

  -- the same of an answer as it is told
  abbrev pub after_reply : What → ℕ → List Asked × List ℕ → Reply J → List Asked × List ℕ
  after_reply what read p r = after_answer what read p r.home r.answer.value

  -- the asks, and the nodes that are left, after these answers in this order, where so many were
  -- read before them
  abbrev pub after_all : What → ℕ → List Asked × List ℕ → List (Reply J) → List Asked × List ℕ
  after_all what read p [] = p
  after_all what read p (r ∷ rs) =
      after_all what (suc read) (after_reply what (suc read) p r) rs

  -- an answer may still come: no ask has more than two
  abbrev pub MayCome : Told J → Type 0
  MayCome told = length told.replies < 2 * length told.asks

  -- an answer of the node for the home, as a call lists it
  abbrev pub answer_read : ℕ → ℕ → Answer J → AnswerRead
  answer_read node home answer =
      record { place = record { holder = node; home = home }; kind = kind_of answer }

  -- the same of an answer as it is told
  abbrev pub as_read : Reply J → AnswerRead
  as_read r = answer_read r.node r.home r.answer.value

  -- one answer is read, and what it leads to is asked
  pub record Reads (what : What) (old : Told J) (left : List ℕ) (number node home : ℕ)
      (answer : Answer J) (new : Told J) (after : List ℕ) : Type 0 where
    pub answers : Answers old.asks number node home answer
    pub within : MayCome old
    pub asks : (new.asks, after)
        ≡ after_answer what (length old.replies + 1) (old.asks, left) home answer
    pub replies : new.replies ≡ old.replies ++ reply number node home answer ∷ []
    pub tries : new.tries ≡ old.tries
    pub room : new.room ≡ old.room

  -- the reply is one to one of these asks
  abbrev pub IsReplyTo : List Asked → Reply J → Type 0
  IsReplyTo asks r = Answers asks r.number r.node r.home r.answer.value

  -- what holds while answers are read: from these asks, with these nodes left, to those asks, with
  -- those nodes left
  pub record HasRead (what : What) (from : List Asked) (spare : List ℕ) (asks : List Asked)
      (replies : List (Reply J)) (left : List ℕ) : Type 0 where
    pub so_far : (asks, left) ≡ after_all what 0 (from, spare) replies
    pub whom : nodes_asked asks ++ left ≡ nodes_asked from ++ spare
    pub first : (k : ℕ) (a : Asked) → slice_get from k ≡ Some a → slice_get asks k ≡ Some a
    pub whats : All (λ a. a.what ≡ what) asks
    pub known : All (IsReplyTo asks) replies
    pub count : length replies ≤ 2 * length asks
    pub followed : (left ≡ [] → ⊥) → All (λ r.
        is_served what r.answer.value ≡ false → IsAskedLater asks r.number r.home) replies

  -- the asks of a call with this coordinator are made by the answers that it read: each home before
  -- the first, and a stand-in right when an answer was read that is not what was asked for
  abbrev pub AsksByRule : Preferred → What → ℕ → Told J → Type 0
  AsksByRule list what c told =
      told.asks ≡ (after_all what 0 (first_asks list what c) told.replies).0

  -- no answer for the home is what was asked for
  abbrev pub IsUnserved : What → List (Reply J) → ℕ → Type 0
  IsUnserved what replies home =
      All (λ r. r.home ≡ home → is_served what r.answer.value ≡ false) replies

  -- for each home that was not served, each node that may hold for it was asked, for it or for
  -- another home, or is the coordinator
  abbrev pub AllUsed : Preferred → What → ℕ → Told J → Type 0
  AllUsed list what c told =
      (home : ℕ) → Contains (homes_in list) home → (home ≡ home_for (homes_in list) c → ⊥) →
      IsUnserved what told.replies home →
      (node : ℕ) → Contains list.nodes node → IsTrue (may_hold (homes_in list) node home) →
      (node ≡ c) ⊎ Contains (nodes_asked told.asks) node

  -- every ask is answered, and the last look for an answer found none
  abbrev pub IsReadOut : Told J → Type 0
  IsReadOut told = (told.drained ≡ true) × AllAnswered told
