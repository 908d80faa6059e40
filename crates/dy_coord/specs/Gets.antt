-- What a get tries, asks and reads, and how it ends (Dynamo, section 4.5).
use Rattle.std.specs.Prelude.{◌≡◌, ◌<◌, ◌++◌, ◌∷◌, ◌⊎◌, [], List, ℕ, length, map, Ok}
use Rattle.std.specs.List.{All, Contains}
use Rattle.dy_dots.specs.declared.faults.Fault.TheVariants.{OutOfMemory, NoNode, NotEnough}
use Rattle.dy_preference.specs.Preferences.{Preferred, home_for}
use Rattle.dy_siblings.specs.Siblings.{IsSameRow, context_of, newest}
use Rattle.dy_core.specs.Logs.{Answer as SeenParts, rows_of}
use Rattle.dy_node.specs.declared.asks.Answer.{Answer}
use Rattle.dy_node.specs.declared.asks.Answer.TheVariants as answer
use Rattle.dy_quorum.specs.Gatherings.{AreUsed, answer_place, first_answers}
use Rattle.dy_transport.specs.Asking.{IsSeenAt}
use Rattle.dy_transport.specs.Refusals.{IsOfNode}
use Rattle.dy_transport.specs.Snapshots.{snapshot_of}
use Rattle.dy_transport.specs.Told.{Told}
use Rattle.dy_transport.specs.declared.asked.What.TheVariants.{Fetch}
use Rattle.dy_core.specs.declared.answers.AnswerKind.TheVariants as kind
use Rattle.dy_core.specs.declared.answers.AnswerRead.{AnswerRead}
use Rattle.dy_transport.specs.declared.replies.Reply.{Reply}
use Rattle.dy_reads.specs.Lists.{homes_in}
use Rattle.dy_reads.specs.Rules.{AllUsed, AsksByRule, IsReadOut, IsReplyTo, as_read}
use Rattle.dy_reads.specs.Tries.{TriesRefused, TriesAt, downs, look_try}
use Rattle.dy_coord.specs.declared.get_done.GetDone.{GetDone}
use Rattle.dy_coord.specs.declared.get_faults.GetFault.{GetFault}

-- how the answer of the coordinator itself is listed
abbrev pub own_read : Preferred → ℕ → AnswerRead
own_read list c = record {
  place = record { holder = c; home = home_for (homes_in list) c };
  kind = kind.Rows;
}

module _ {J : Type 0} where
  -- the row in an answer, where it is one of rows
  abbrev pub seen_in : Answer J → List SeenParts
  seen_in (answer.Stored receipts) = []
  seen_in (answer.Rows seen) = seen ∷ []
  seen_in answer.Down = []
  seen_in answer.NoAnswer = []
  seen_in (answer.Refused fault) = []

  -- the rows in answers, in the order in which they were read
  abbrev pub seens_of : List (Reply J) → List SeenParts
  seens_of [] = []
  seens_of (r ∷ replies) = seen_in r.answer.value ++ seens_of replies

  -- before the last answer that was read, fewer than r homes had answered with a row
  abbrev pub StopsSoon : ℕ → List SeenParts → List (Reply J) → Type 0
  StopsSoon r own replies =
      (before : List (Reply J)) (last : Reply J) → replies ≡ before ++ last ∷ [] →
      length (first_answers (own ++ seens_of before)) < r

  -- a get began at this coordinator, with this row of its own: the nodes before it were down, the
  -- asks are by the rule, each answer is one to an ask, and it has all rows that were read, each
  -- for a home of the key, and lists all answers
  pub record Gathers (list : Preferred) (key : List ℕ) (r since c : ℕ) (own : SeenParts)
      (told : Told J) (seens : List SeenParts) (answers : List AnswerRead) : Type 0 where
    pub tries : TriesAt (look_try list key since) list.nodes told.tries c (Ok own)
    pub own_is : IsSeenAt c (home_for (homes_in list) c) key since own
    pub asks : AsksByRule list (Fetch (snapshot_of key) since) c told
    pub known : All (IsReplyTo told.asks) told.replies
    pub seens_are : seens ≡ own ∷ seens_of told.replies
    pub for_homes : All (λ s. Contains (homes_in list) s.home) seens
    pub answers_are : answers ≡ own_read list c ∷ map as_read told.replies
    pub stops : StopsSoon r (own ∷ []) told.replies

  -- a get of the key is answered: it uses the first answer of each of r homes, each after so many
  -- steps, as it tells, and its row is the merge of theirs
  pub record IsGot (list : Preferred) (key : List ℕ) (r since : ℕ) (told : Told J)
      (done : GetDone J) : Type 0 where
    pub coordinator : ℕ
    pub own : SeenParts
    pub gathers :
        Gathers list key r since coordinator own told done.seen.items done.answers.items
    pub used : AreUsed key r since (first_answers done.seen.items)
    pub since_is : done.since ≡ since
    pub from : done.from.items ≡ map answer_place (first_answers done.seen.items)
    pub row_key : done.row.key ≡ key
    pub row : IsSameRow done.row.versions (newest (rows_of (first_answers done.seen.items)))
    pub context : done.context ≡ context_of done.row.versions

  -- fewer than r homes answered with a row: nothing is left to read, and each node that may hold
  -- for a home without one was asked for it or for another
  pub record LacksHomes (list : Preferred) (key : List ℕ) (r since : ℕ) (told : Told J)
      (e : GetFault) : Type 0 where
    pub coordinator : ℕ
    pub own : SeenParts
    pub seens : List SeenParts
    pub fault : e.fault ≡ NotEnough
    pub gathers : Gathers list key r since coordinator own told seens e.answers.items
    pub few : length (first_answers seens) < r
    pub out : IsReadOut told
    pub used : AllUsed list (Fetch (snapshot_of key) since) coordinator told

  -- r homes answered, and there was no memory for what a get gives; what was read is not listed
  pub record LacksMemory (list : Preferred) (key : List ℕ) (r since : ℕ) (told : Told J)
      (e : GetFault) : Type 0 where
    pub coordinator : ℕ
    pub own : SeenParts
    pub seens : List SeenParts
    pub answers : List AnswerRead
    pub fault : e.fault ≡ OutOfMemory
    pub gathers : Gathers list key r since coordinator own told seens answers
    pub no_answers : e.answers.items ≡ []
    pub enough : length (first_answers seens) ≡ r

  -- a get that asked nobody: no memory before the first try, each node down, or a node refused
  pub record AsksNobody (list : Preferred) (key : List ℕ) (since : ℕ) (told : Told J)
      (e : GetFault) : Type 0 where
    pub asks : told.asks ≡ []
    pub replies : told.replies ≡ []
    pub answers : e.answers.items ≡ []
    pub cause : ((e.fault ≡ OutOfMemory) × (told.tries ≡ []))
        ⊎ ((e.fault ≡ NoNode) × (told.tries ≡ downs (look_try list key since) list.nodes))
        ⊎ TriesRefused (look_try list key since) IsOfNode list.nodes told.tries e.fault

  -- how a get is refused
  abbrev pub IsGetRefused : Preferred → List ℕ → ℕ → ℕ → Told J → GetFault → Type 0
  IsGetRefused list key r since told e =
      LacksHomes list key r since told e ⊎ LacksMemory list key r since told e
      ⊎ AsksNobody list key since told e
