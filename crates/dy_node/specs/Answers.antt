-- What a node answers to an ask.
use Rattle.std.specs.Prelude.{◌≡◌, ℕ, ◌+◌, ◌<◌, IsTrue, List, length, Option, None, Some}
use Rattle.dy_dots.specs.declared.faults.Fault.TheVariants.{OutOfMemory}
use Rattle.dy_siblings.specs.Siblings.{Siblings, IsSameRow}
use Rattle.dy_ring.specs.Rings.{Tokens}
use Rattle.dy_preference.specs.Preferences.{homes_of, may_hold}
use Rattle.dy_core.specs.Logs.{Answer as Seen}
use Rattle.dy_shares.specs.Shares.{ReceiptParts, with_steps}
use Rattle.dy_book.specs.Books.{BookParts, receipts_of, with_untold}
use Rattle.dy_node.specs.Stored.{versions_at}
use Rattle.dy_node.specs.Nodes.{NodeState, fetch_steps, hold_steps, with_message}
use Rattle.dy_node.specs.Refusals.{FetchRefused, StoreRefused}
use Rattle.dy_modes.specs.declared.modes.Mode.{Mode}
use Rattle.dy_modes.specs.declared.modes.Mode.TheVariants.{Plain, Mute, Late, Repeat, Delay}
use Rattle.dy_node.specs.declared.asks.Ask.{Ask}
use Rattle.dy_node.specs.declared.asks.Ask.TheVariants.{Store, Fetch}
use Rattle.dy_node.specs.declared.asks.Answer.{Answer}
use Rattle.dy_node.specs.declared.asks.Answer.TheVariants.{Stored, Rows, Down, NoAnswer, Refused}

-- the row is held, with a receipt for each of its versions
pub record IsStored (old : NodeState) (b : BookParts) (new : NodeState) (c : BookParts) (home : ℕ)
    (row : Siblings) (receipts : List ReceiptParts) : Type 0 where
  pub log : c ≡ with_untold b (hold_steps old.part.node home row)
  pub share : new.part ≡ with_steps old.part (hold_steps old.part.node home row)
  pub receipts_are : receipts ≡ receipts_of row.versions old.part.node home
  pub is_up : new.is_up ≡ old.is_up
  pub mode : new.mode ≡ old.mode
  pub waiting : new.waiting ≡ old.waiting

-- the row that is kept is fetched, by the next step, whose number is greater than this one
pub record IsFetched (old : NodeState) (b : BookParts) (new : NodeState) (c : BookParts) (home : ℕ)
    (key : List ℕ) (since : ℕ) (seen : Seen) : Type 0 where
  pub node : new ≡ old
  pub log : c ≡ with_untold b (fetch_steps old.part.node home key)
  pub holder_is : seen.holder ≡ old.part.node
  pub home_is : seen.home ≡ home
  pub key_is : seen.key ≡ key
  pub row_is : IsSameRow seen.row (versions_at old.rooms home key)
  pub at : seen.at ≡ length b.log + 1
  pub later : since < seen.at

module _ {J : Type 0} where
  -- the node may hold what it is asked to
  abbrev pub MayAsk : Tokens → ℕ → ℕ → Ask J → Type 0
  MayAsk ring n node (Store home row) =
      IsTrue (may_hold (homes_of ring n row.key) node home)
  MayAsk ring n node (Fetch home key since) = Unit {0}

  -- the answer is that of the node's store or fetch
  abbrev pub IsDone : Ask J → NodeState → BookParts → NodeState → BookParts → Answer J → Type 0
  IsDone (Store home row) old b new c (Stored receipts) =
      IsStored old b new c home row receipts.items
  IsDone (Store home row) old b new c (Rows seen) = ⊥
  IsDone (Store home row) old b new c Down = ⊥
  IsDone (Store home row) old b new c NoAnswer = ⊥
  IsDone (Store home row) old b new c (Refused f) =
      (new ≡ old) × (c ≡ b) × StoreRefused b old row (Some f)
  IsDone (Fetch home key since) old b new c (Stored receipts) = ⊥
  IsDone (Fetch home key since) old b new c (Rows seen) =
      IsFetched old b new c home key.now since.now seen
  IsDone (Fetch home key since) old b new c Down = ⊥
  IsDone (Fetch home key since) old b new c NoAnswer = ⊥
  IsDone (Fetch home key since) old b new c (Refused f) =
      (new ≡ old) × (c ≡ b) × FetchRefused b old (Some f)

  -- a row is kept for later, where there is memory; a look is not done
  abbrev pub IsPutOff : Ask J → NodeState → NodeState → Answer J → Type 0
  IsPutOff ask old new (Stored receipts) = ⊥
  IsPutOff ask old new (Rows seen) = ⊥
  IsPutOff ask old new Down = ⊥
  IsPutOff (Store home row) old new NoAnswer =
      new ≡ with_message old (record { home = home; row = row })
  IsPutOff (Fetch home key since) old new NoAnswer = new ≡ old
  IsPutOff (Store home row) old new (Refused f) = (f ≡ OutOfMemory) × (new ≡ old)
  IsPutOff (Fetch home key since) old new (Refused f) = ⊥

  -- it is the answer of a node that is down
  abbrev pub IsDown : Answer J → Type 0
  IsDown (Stored receipts) = ⊥
  IsDown (Rows seen) = ⊥
  IsDown Down = Unit {0}
  IsDown NoAnswer = ⊥
  IsDown (Refused f) = ⊥

  -- done three times in turn, the last answer given
  pub record IsRepeated (ask : Ask J) (old : NodeState) (b : BookParts) (new : NodeState)
      (c : BookParts) (answer : Answer J) : Type 0 where
    pub node : NodeState
    pub node_again : NodeState
    pub book : BookParts
    pub book_again : BookParts
    pub first : Answer J
    pub second : Answer J
    pub is_first : IsDone ask old b node book first
    pub is_second : IsDone ask node book node_again book_again second
    pub is_third : IsDone ask node_again book_again new c answer

  -- what a node that is up answers by its mode: at first, and once more
  abbrev pub AnsweredBy : Mode → Ask J → NodeState → BookParts → NodeState → BookParts →
      Answer J → Option (Answer J) → Type 0
  AnsweredBy Plain ask old b new c first second =
      (second ≡ None) × IsDone ask old b new c first
  AnsweredBy Mute ask old b new c first second =
      (second ≡ None) × (first ≡ NoAnswer) × ((done : Answer J) × IsDone ask old b new c done)
  AnsweredBy Late ask old b new c first second =
      (first ≡ NoAnswer)
      × ((done : Answer J) × (second ≡ Some done) × IsDone ask old b new c done)
  AnsweredBy Repeat ask old b new c first second =
      (second ≡ None) × IsRepeated ask old b new c first
  AnsweredBy Delay ask old b new c first second =
      (second ≡ None) × (c ≡ b) × IsPutOff ask old new first
