-- Shares: which part of a log is a node's and which a session's, and what each part shows.
use Rattle.std.specs.Prelude.{◌≡◌, ℕ, zero, suc, ◌+◌, ◌-◌, ◌<◌, ◌≤◌, ◌⊎◌, ◌==◌, max, Bool, false}
use Rattle.std.specs.Prelude.{Option, None, Some, List, [], ◌∷◌, ◌++◌, map, filter, take, drop}
use Rattle.std.specs.Prelude.{length, nat_eq, slice_get, if◌then◌else◌}
use Rattle.std.specs.List.{All, Any, IsDistinct, filter_map}
use Rattle.logbook.specs.Pages.{Book}
use Rattle.atomic_table.specs.Seated.{TableId}
use Rattle.dy_dots.specs.declared.dots.Dot.{Dot}
use Rattle.dy_siblings.specs.Siblings.{Siblings, IsSameRow}
use Rattle.dy_siblings.specs.declared.versions.Version.{Version}
use Rattle.dy_ring.specs.Rings.{Tokens}
use Rattle.dy_core.specs.Worlds.{World, empty_world, layout_of, row_at}
use Rattle.dy_core.specs.Steps.{version_made, after_issue, after_hold, after_release}
use Rattle.dy_core.specs.Covers.{ReceiptHolds}
use Rattle.dy_core.specs.Logs.{world_after, IsLegalFrom, Answer, AreOfHomes, MatchesLog}
use Rattle.dy_core.specs.declared.steps.Step.{Step}
use Rattle.dy_core.specs.declared.acks.Acked.{Acked}
use Rattle.dy_core.specs.declared.steps.Step.TheVariants.{Issue, Hold, Release, Fetch, Ack}
use Rattle.dy_shares.specs.declared.entries.Entry.{Entry}

-- what a blank is seen as: the names of its log and of its roll
pub record BlankNames : Type 0 where
  pub book : Book
  pub table : TableId

-- what a ledger is seen as: its log, and how many sessions it has opened
pub record Account : Type 0 where
  pub log : List Entry
  pub sessions : ℕ

-- at first nothing is logged, and no session is open
abbrev pub empty_account : Account
empty_account = record { log = []; sessions = 0 }

-- the account with these entries at the end of its log
abbrev pub with_entries : Account → List Entry → Account
with_entries a entries = record a { log = a.log ++ entries }

-- the account with a session more
abbrev pub with_session : Account → Account
with_session a = record a { sessions = a.sessions + 1 }

-- the steps of a log
abbrev pub steps_of : List Entry → List Step
steps_of log = map (λ e. e.step) log

-- an entry that no session was told
abbrev pub untold : Step → Entry
untold s = record { told = None; step = s }

-- an entry that this session was told
abbrev pub told_to : ℕ → Step → Entry
told_to session s = record { told = Some session; step = s }

-- the steps may follow the log: each is allowed where it stands, by the ring and the number of
-- homes
abbrev pub MayFollow : Tokens → ℕ → List Entry → List Step → Type 0
MayFollow ring n log steps = IsLegalFrom (layout_of ring n) (world_after (steps_of log)) steps

-- the node whose step it is: the one that makes a version, holds a row or gives up a dot; a fetch
-- changes nothing, and an ack is a session's
abbrev pub node_of : Step → Option ℕ
node_of (Issue node key context value) = Some node
node_of (Hold p row) = Some p.holder
node_of (Release p key d) = Some p.holder
node_of (Fetch p key) = None
node_of (Ack key d w) = None

-- whether the one named, if any, is this one
abbrev pub names : ℕ → Option ℕ → Bool
names k None = false
names k (Some j) = j == k

-- what a node's share is seen as: the node, and the steps that it made, in their order
pub record NodePart : Type 0 where
  pub node : ℕ
  pub steps : List Step

-- the part with these steps at its end
abbrev pub with_steps : NodePart → List Step → NodePart
with_steps p steps = record p { steps = p.steps ++ steps }

-- a node's part of a log is the steps that are its own
abbrev pub node_part : ℕ → List Step → NodePart
node_part node steps = record { node = node; steps = filter (λ s. names node (node_of s)) steps }

-- the parts of the nodes below this number, where they have made no step
abbrev pub first_parts : ℕ → List NodePart
first_parts zero = []
first_parts (suc n) = first_parts n ++ record { node = n; steps = [] } ∷ []

-- the world as far as one node's own steps show it: an issue counts on, a hold brings its versions
-- along, a release gives up its dot
abbrev pub shown_after_step : World → Step → World
shown_after_step w (Issue node key context value) =
    record w { counters = (after_issue w (version_made w node key context value)).counters }
shown_after_step w (Hold p row) =
    after_hold (record w { versions = row.versions ++ w.versions }) p.holder p.home row
shown_after_step w (Release p key d) = after_release w p.holder p.home key d
shown_after_step w (Fetch p key) = w
shown_after_step w (Ack key d count) = w

-- the world as far as these steps of one node show it, from this one on
abbrev pub shown_from : World → List Step → World
shown_from w [] = w
shown_from w (s ∷ ss) = shown_from (shown_after_step w s) ss

-- whether a part shows that its node holds a dot of a key for a home
abbrev pub shows_held : NodePart → ℕ → List ℕ → Dot → Bool
shows_held p home key d = (shown_from empty_world p.steps).holdings p.node home key d

-- the last counter that a part shows its node to have used for a key
abbrev pub shows_counter : NodePart → List ℕ → ℕ
shows_counter p key = (shown_from empty_world p.steps).counters p.node key

-- the row of a key that a part shows its node to hold for a home
abbrev pub shown_row : NodePart → ℕ → List ℕ → List Version
shown_row p home key = row_at (shown_from empty_world p.steps) p.node home key

-- a node's share belongs to a log: it is the node's part, and it shows what the world after the log
-- holds at the node, with its rows and the node's counters
pub record BelongsTo (steps : List Step) (p : NodePart) : Type 0 where
  pub part_is : p ≡ node_part p.node steps
  pub shows_holdings : (home : ℕ) (key : List ℕ) (d : Dot) →
      shows_held p home key d ≡ (world_after steps).holdings p.node home key d
  pub shows_counters : (key : List ℕ) →
      shows_counter p key ≡ (world_after steps).counters p.node key
  pub shows_rows : (home : ℕ) (key : List ℕ) →
      IsSameRow (shown_row p home key) (row_at (world_after steps) p.node home key)

-- what a receipt is seen as: a key and a dot, who held it, and the home that is covered
pub record ReceiptParts : Type 0 where
  pub key : List ℕ
  pub dot : Dot
  pub holder : ℕ
  pub home : ℕ

-- the receipt of this key, dot, holder and home
abbrev pub receipt_parts : List ℕ → Dot → ℕ → ℕ → ReceiptParts
receipt_parts key dot holder home =
    record { key = key; dot = dot; holder = holder; home = home }

-- the receipt holds in the world after the log
abbrev pub IsReceipt : List Step → ReceiptParts → Type 0
IsReceipt steps r = ReceiptHolds (world_after steps) r.key r.dot r.holder r.home

-- an ack as a session was told it: the number of its step, from 1, and what it acknowledges
pub record AckTold : Type 0 where
  pub at : ℕ
  pub key : List ℕ
  pub dot : Dot
  pub w : ℕ

-- the session was told of this ack
abbrev pub IsAckOf : AckTold → Acked → Type 0
IsAckOf t x = (t.key ≡ x.key) × (t.dot ≡ x.dot) × (t.w ≡ x.w)

-- a get as a session was told it: the session's since before it, its answers, and how many acks the
-- session had been told before it
pub record GetTold : Type 0 where
  pub since : ℕ
  pub answers : List Answer
  pub acks : ℕ

-- what a session's share is seen as: the session, the acks that it was told, the receipts that were
-- spent for each of them, and the gets that it was told
pub record SessionPart : Type 0 where
  pub session : ℕ
  pub acks : List AckTold
  pub spent : List (List ReceiptParts)
  pub gets : List GetTold

-- the answer of this number, holder, home, key and row
abbrev pub answer_of : ℕ → ℕ → ℕ → List ℕ → Siblings → Answer
answer_of at holder home key row =
    record { at = at; holder = holder; home = home; key = key; row = row.versions }

-- the part of a session that was told nothing
abbrev pub first_session : ℕ → SessionPart
first_session session = record { session = session; acks = []; spent = []; gets = [] }

-- the step of this number as an ack, where it is one
abbrev pub ack_at : ℕ → Step → List AckTold
ack_at at (Issue node key context value) = []
ack_at at (Hold p row) = []
ack_at at (Release p key d) = []
ack_at at (Fetch p key) = []
ack_at at (Ack key d w) = record { at = at; key = key; dot = d; w = w } ∷ []

-- the step as an ack, where it is one
abbrev pub ack_of : Step → Option Acked
ack_of (Issue node key context value) = None
ack_of (Hold p row) = None
ack_of (Release p key d) = None
ack_of (Fetch p key) = None
ack_of (Ack key d w) = Some (record { key = key; dot = d; w = w })

-- the acks among these steps, in their order
abbrev pub acks_of : List Step → List Acked
acks_of steps = filter_map ack_of steps

-- the acks that a session was told by these entries, which are numbered from `at`
abbrev pub acks_from : ℕ → ℕ → List Entry → List AckTold
acks_from at session [] = []
acks_from at session (e ∷ es) =
    (if names session e.told then ack_at at e.step else []) ++ acks_from (at + 1) session es

-- the acks that a log tells a session
abbrev pub session_acks : ℕ → List Entry → List AckTold
session_acks session log = acks_from 1 session log

-- the session was told this ack too, for which these receipts were spent
abbrev pub with_ack : SessionPart → ℕ → Step → List ReceiptParts → SessionPart
with_ack s at step receipts =
    record s { acks = s.acks ++ ack_at at step; spent = s.spent ++ receipts ∷ [] }

-- the session was told this get too, after all acks that it was told so far
abbrev pub with_get : SessionPart → ℕ → List Answer → SessionPart
with_get s since answers =
    record s {
      gets = s.gets ++ record { since = since; answers = answers; acks = length s.acks } ∷ [];
    }

-- the greatest of some numbers, and 0 of none
abbrev pub greatest : List ℕ → ℕ
greatest [] = 0
greatest (n ∷ ns) = max n (greatest ns)

-- the numbers of the answers of some gets
abbrev pub answer_numbers : List GetTold → List ℕ
answer_numbers [] = []
answer_numbers (g ∷ gs) = map (λ a. a.at) g.answers ++ answer_numbers gs

-- the greatest step number of some acks and gets, 0 of none
abbrev pub latest_of : List AckTold → List GetTold → ℕ
latest_of acks gets = max (greatest (map (λ a. a.at) acks)) (greatest (answer_numbers gets))

-- a session's since: the greatest step number that it was told, 0 where it was told none
abbrev pub since_of : SessionPart → ℕ
since_of s = latest_of s.acks s.gets

-- receipts that make an ack of a key and a dot: as many as homes were named, of distinct homes and
-- distinct holders
pub record AreSpendable (key : List ℕ) (dot : Dot) (w : ℕ) (receipts : List ReceiptParts) : Type 0
  where
    pub count_is : length receipts ≡ w
    pub of_dot : All (λ r. (r.key ≡ key) × (r.dot ≡ dot)) receipts
    pub homes_distinct : IsDistinct nat_eq (map (λ r. r.home) receipts)
    pub holders_distinct : IsDistinct nat_eq (map (λ r. r.holder) receipts)

-- the receipts were spent for the ack that was told: they make it, and each held where it was made
pub record AreSpentFor (steps : List Step) (t : AckTold) (receipts : List ReceiptParts) : Type 0
  where
    pub make : AreSpendable t.key t.dot t.w receipts
    pub reached : t.at ≤ length steps
    pub hold : All (IsReceipt (take (t.at - 1) steps)) receipts

-- for each of the acks, in their order, receipts were spent
abbrev pub AreSpent : List Step → List AckTold → List (List ReceiptParts) → Type 0
AreSpent steps [] [] = Unit {0}
AreSpent steps [] (receipts ∷ spent) = ⊥
AreSpent steps (t ∷ acks) [] = ⊥
AreSpent steps (t ∷ acks) (receipts ∷ spent) =
    AreSpentFor steps t receipts × AreSpent steps acks spent

-- the session's ack of this number, from 0, is this, and these receipts were spent for it
pub record IsAckSpent (s : SessionPart) (i : ℕ) (t : AckTold) (receipts : List ReceiptParts)
    : Type 0 where
  pub ack_is : slice_get s.acks i ≡ Some t
  pub spent_is : slice_get s.spent i ≡ Some receipts

-- the homes whose receipts are of themselves
abbrev pub own_homes : List ReceiptParts → List ℕ
own_homes receipts = map (λ r. r.home) (filter (λ r. nat_eq r.holder r.home) receipts)

-- the get is of the key, and each answer is of one of its homes, which holds for itself
abbrev pub IsOfHomes : Tokens → ℕ → List ℕ → GetTold → Type 0
IsOfHomes ring n key g =
    All (λ a. a.key ≡ key) g.answers × AreOfHomes ((layout_of ring n).homes key) g.answers

-- the get matches the log: r answers of one key and distinct homes, each a fetch of the log, after
-- the session's since (Dynamo, section 4.5)
abbrev pub GetMatches : List Step → ℕ → GetTold → Type 0
GetMatches steps r g = (key : List ℕ) × MatchesLog steps key r g.since g.answers

-- a get stands where it was told: behind so many of the acks, and behind these gets, none of which
-- was told behind more; its since is exactly the greatest number that was told before it; and each
-- ack that was told after it is later than its answers
pub record IsInTurn (acks : List AckTold) (before : List GetTold) (g : GetTold) : Type 0 where
  pub behind_acks : g.acks ≤ length acks
  pub behind_gets : All (λ b. b.acks ≤ g.acks) before
  pub since_is : g.since ≡ latest_of (take g.acks acks) before
  pub acks_after : All (λ a. All (λ x. x.at < a.at) g.answers) (drop g.acks acks)

-- each of these gets, behind some others, stands where it was told
abbrev pub AreInTurn : List AckTold → List GetTold → List GetTold → Type 0
AreInTurn acks before [] = Unit {0}
AreInTurn acks before (g ∷ gs) = IsInTurn acks before g × AreInTurn acks (before ++ g ∷ []) gs

-- a session's share belongs to a log: its acks are those that the log told the session, with the
-- receipts that were spent for each; each of its gets matches the log; and acks and gets stand in
-- the one order in which they were told
pub record SessionBelongsTo (log : List Entry) (r : ℕ) (s : SessionPart) : Type 0 where
  pub acks_are : s.acks ≡ session_acks s.session log
  pub spent_are : AreSpent (steps_of log) s.acks s.spent
  pub gets_match : All (GetMatches (steps_of log) r) s.gets
  pub in_turn : AreInTurn s.acks [] s.gets

-- the node's part is the same in both logs
abbrev pub NodeStays : List Entry → List Entry → ℕ → Type 0
NodeStays old new node = node_part node (steps_of new) ≡ node_part node (steps_of old)

-- the session was told the same acks by both logs
abbrev pub SessionStays : List Entry → List Entry → ℕ → Type 0
SessionStays old new session = session_acks session new ≡ session_acks session old

-- the step, with whom it was told, is of a node or a session below these numbers, or it is a fetch
abbrev pub IsOwnedStep : ℕ → ℕ → Option ℕ → Step → Type 0
IsOwnedStep nodes sessions told (Issue node key context value) = (told ≡ None) × (node < nodes)
IsOwnedStep nodes sessions told (Hold p row) = (told ≡ None) × (p.holder < nodes)
IsOwnedStep nodes sessions told (Release p key d) = (told ≡ None) × (p.holder < nodes)
IsOwnedStep nodes sessions told (Fetch p key) = told ≡ None
IsOwnedStep nodes sessions told (Ack key d w) =
    (session : ℕ) × (told ≡ Some session) × (session < sessions)

-- each entry is a step of one of the nodes, an ack told to one of the sessions, or a fetch
abbrev pub AreOwned : ℕ → ℕ → List Entry → Type 0
AreOwned nodes sessions log = All (λ e. IsOwnedStep nodes sessions e.told e.step) log

-- some part is this node's
abbrev pub HasNode : ℕ → List NodePart → Type 0
HasNode node parts = Any (λ p. p.node ≡ node) parts

-- some part is this session's
abbrev pub HasSession : ℕ → List SessionPart → Type 0
HasSession session parts = Any (λ s. s.session ≡ session) parts

-- the shares are all that were given out, and what they show is all that the log has: each belongs
-- to the log, each node and session has its own, none is there twice, and each entry is one of
-- theirs, or a fetch
pub record AreAll (nodes r : ℕ) (a : Account) (parts : List NodePart) (tellings : List SessionPart)
    : Type 0 where
  pub nodes_belong : All (BelongsTo (steps_of a.log)) parts
  pub sessions_belong : All (SessionBelongsTo a.log r) tellings
  pub each_node : (node : ℕ) → node < nodes → HasNode node parts
  pub each_session : (session : ℕ) → session < a.sessions → HasSession session tellings
  pub nodes_once : IsDistinct nat_eq (map (λ p. p.node) parts)
  pub sessions_once : IsDistinct nat_eq (map (λ s. s.session) tellings)
  pub each_entry : AreOwned nodes a.sessions a.log

-- each node and each session has a share among these
abbrev pub HasAll : ℕ → ℕ → List NodePart → List SessionPart → Type 0
HasAll nodes sessions parts tellings =
    ((node : ℕ) → node < nodes → HasNode node parts)
    × ((session : ℕ) → session < sessions → HasSession session tellings)

-- the share of a node or of a session is missing
abbrev pub IsMissing : ℕ → ℕ → List NodePart → List SessionPart → Type 0
IsMissing nodes sessions parts tellings =
    ((node : ℕ) × (node < nodes) × ¬ (HasNode node parts))
    ⊎ ((session : ℕ) × (session < sessions) × ¬ (HasSession session tellings))
