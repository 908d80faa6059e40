-- Which part of a log a share of the roll has.
use Rattle.std.specs.Prelude.{ℕ, ◌≡◌, ◌+◌, ◌<◌, ◌≤◌, Option, None, Some, List, [], ◌∷◌, ◌++◌}
use Rattle.std.specs.Prelude.{length, map, if◌then◌else◌, nat_eq, refl}
use Rattle.std.specs.List.{All, IsDistinct}
use Rattle.std.specs.Coded.{Coded, code_by, coded×, coded_ℕ, coded_list}
use mathlib.Core.Option.{some}
use lib.ListN.{get_elem?}
use Rattle.dy_core.specs.declared.acks.Acked.{Acked}
use Rattle.dy_core.specs.declared.steps.Step.{Step}
use Rattle.dy_shares.specs.declared.entries.Entry.{Entry}
use Rattle.dy_shares.specs.contracts.entries.Done as done
use Rattle.dy_shares.specs.declared.entries.Done.{Done}
use Rattle.dy_shares.specs.Shares.{names, node_of, ack_at, acks_of, steps_of, since_of}
use Rattle.dy_shares.specs.Shares.{Account, AckTold}
use Rattle.dy_shares.specs.Shares.{GetTold, NodePart, ReceiptParts, SessionPart, GetMatches}
use Rattle.dy_shares.specs.Shares.{AreInTurn, AreOwned, AreSpent}
use Rattle.dy_shares.specs.inside.Agreeing.{IsOut, retired}
use Rattle.dy_core.specs.Worlds.{Layout}
use Rattle.dy_core.specs.Logs.{IsLegal}

-- what a share of the roll is seen as: its seat, and the steps that it has done, with their numbers
pub record Held : Type 0 where
  pub index : ℕ
  pub part : List Done

-- the codes of a part, of a share and of all parts
abbrev pub part_code : Coded (List Done)
part_code = coded_list done.the_row.coded

abbrev pub held_code : Coded Held
held_code =
    code_by (ℕ × List Done) (coded× coded_ℕ part_code)
    (λ h. (h.index, h.part)) (λ p. record { index = p.0; part = p.1 }) (λ _. refl)

abbrev pub parts_code : Coded (List (List Done))
parts_code = coded_list part_code

-- the share of this seat, with this part
abbrev pub held : ℕ → List Done → Held
held index part = record { index = index; part = part }

-- the seat of the roll whose entry it is: a session's seats stand behind those of the nodes
abbrev pub seat_by : ℕ → Option ℕ → Step → Option ℕ
seat_by nodes None s = node_of s
seat_by nodes (Some session) s = Some (nodes + session)

-- the seat of the roll whose entry this one is
abbrev pub seat_of : ℕ → Entry → Option ℕ
seat_of nodes e = seat_by nodes e.told e.step

-- these steps, numbered from `at`
abbrev pub numbered : ℕ → List Step → List Done
numbered at [] = []
numbered at (s ∷ ss) = record { at = at; step = s } ∷ numbered (at + 1) ss

-- the share with these steps more, numbered from `at`
abbrev pub with_done : Held → ℕ → List Step → Held
with_done h at ss = held h.index (h.part ++ numbered at ss)

-- the entries of these steps, of which all are told to the same session, or to none
abbrev pub entries_of : Option ℕ → List Step → List Entry
entries_of told ss = map (λ s. record { told = told; step = s }) ss

-- what a seat has done by these entries, which are numbered from `at`
abbrev pub done_from : ℕ → ℕ → ℕ → List Entry → List Done
done_from nodes at k [] = []
done_from nodes at k (e ∷ es) =
    if names k (seat_of nodes e)
    then record { at = at; step = e.step } ∷ done_from nodes (at + 1) k es
    else done_from nodes (at + 1) k es

-- all of the entries are of this seat
abbrev pub AreOf : ℕ → Option ℕ → List Entry → Type 0
AreOf nodes k es = All (λ e. seat_of nodes e ≡ k) es

-- each seat of the roll has what it has done by the log, and the others have done nothing
pub record IsRollOf (nodes : ℕ) (log : List Entry) (opened : ℕ) (parts : List (List Done))
    : Type 0 where
  pub many : length parts ≡ opened
  pub each : (k : ℕ) → k < opened → get_elem? parts k ≡ some (done_from nodes 1 k log)
  pub others : (k : ℕ) → opened ≤ k → done_from nodes 1 k log ≡ []

-- the steps of a part
abbrev pub done_steps : List Done → List Step
done_steps part = map (λ x. x.step) part

-- the acks of a part
abbrev pub done_acks : List Done → List AckTold
done_acks [] = []
done_acks (x ∷ xs) = ack_at x.at x.step ++ done_acks xs

-- the shares of these seats came back for good: no seat is there twice, each is marked, and what is
-- not marked is as it was
pub record CameBack (old : List (List Done)) (seats : List ℕ) (new : List (List Done)) : Type 0
  where
    pub distinct : IsDistinct nat_eq seats
    pub marked : All (λ k. (part : List Done) × (get_elem? new k ≡ some (retired part))) seats
    pub stays : (k : ℕ) (part : List Done) → IsOut part → get_elem? new k ≡ some part →
        get_elem? old k ≡ some part

-- a node's share agrees with its seat of the roll
pub record AgreesAsNode (parts : List (List Done)) (p : NodePart) : Type 0 where
  pub part : List Done
  pub seat_has : get_elem? parts p.node ≡ some part
  pub is_out : IsOut part
  pub steps_are : p.steps ≡ done_steps part

-- a session's share agrees with its seat of the roll, its receipts were spent for its acks, and its
-- gets match the log
pub record AgreesAsSession (nodes r : ℕ) (parts : List (List Done)) (log : List Entry)
    (s : SessionPart) : Type 0 where
  pub part : List Done
  pub seat_has : get_elem? parts (nodes + s.session) ≡ some part
  pub is_out : IsOut part
  pub acks_are : s.acks ≡ done_acks part
  pub spent_are : AreSpent (steps_of log) s.acks s.spent
  pub gets_match : All (GetMatches (steps_of log) r) s.gets
  pub in_turn : AreInTurn s.acks [] s.gets

-- what a session was told, by its part of the roll, what was spent, and its gets
abbrev pub told_parts : ℕ → List Done → List (List ReceiptParts) → List GetTold → SessionPart
told_parts session part spent gets =
    record { session = session; acks = done_acks part; spent = spent; gets = gets }

-- a session's share as it is kept: its seat, its since, and a front at which receipts were seen to
-- be spent for each ack, and each get to match the log
pub record IsSessionShare (nodes r index since : ℕ) (front : List Entry) (s : SessionPart)
    : Type 0 where
  pub seat_is : index ≡ nodes + s.session
  pub since_is : since ≡ since_of s
  pub reached : since ≤ length front
  pub spent_are : AreSpent (steps_of front) s.acks s.spent
  pub gets_match : All (GetMatches (steps_of front) r) s.gets
  pub in_turn : AreInTurn s.acks [] s.gets

-- a ledger as it is kept: it counts the steps of the log, has its acks, its roll has the log's
-- parts, each entry is somebody's, and the log is legal
pub record IsLedger (nodes : ℕ) (layout : Layout) (steps : ℕ) (acks : List Acked) (sessions : ℕ)
    (log : List Entry) (roll : List (List Done)) : Type 0 where
  pub counted : steps ≡ length log
  pub acked : acks ≡ acks_of (steps_of log)
  pub roll_is : IsRollOf nodes log (nodes + sessions) roll
  pub owned : AreOwned nodes sessions log
  pub legal : IsLegal layout (steps_of log)

-- a share of the roll as the log has it: its seat is open, and its part is what the seat has done
-- by a legal log of which each entry is somebody's
pub record IsPartOf (nodes : ℕ) (layout : Layout) (a : Account) (h : Held) : Type 0 where
  pub is_open : h.index < nodes + a.sessions
  pub part_is : h.part ≡ done_from nodes 1 h.index a.log
  pub owned : AreOwned nodes a.sessions a.log
  pub legal : IsLegal layout (steps_of a.log)
