-- What a get collects, and what it gives at its end.
use Rattle.std.specs.Prelude.{◌≡◌, ◌<◌, ◌≤◌, ◌∷◌, [], List, ℕ, length, map}
use Rattle.std.specs.List.{All, Contains}
use Rattle.dy_preference.specs.Preferences.{Preferred}
use Rattle.dy_siblings.specs.Siblings.{IsSameRow, context_of, newest}
use Rattle.dy_core.specs.Logs.{Answer, rows_of}
use Rattle.dy_quorum.specs.Gatherings.{answer_place, first_answers}
use Rattle.dy_transport.specs.Snapshots.{snapshot_of}
use Rattle.dy_transport.specs.Told.{Told}
use Rattle.dy_transport.specs.declared.asked.What.TheVariants.{Fetch}
use Rattle.dy_core.specs.declared.answers.AnswerRead.{AnswerRead}
use Rattle.dy_reads.specs.Lists.{homes_in}
use Rattle.dy_reads.specs.Rules.{AllUsed, AsksByRule, IsReadOut, IsReplyTo, as_read}
use Rattle.dy_coord.specs.Gets.{StopsSoon, own_read, seens_of}
use Rattle.dy_coord.specs.declared.get_done.GetDone.{GetDone}

module _ {J : Type 0} where
  -- what is given is made of these rows and answers, after so many steps
  pub record Finishes (since : ℕ) (seens : List Answer) (answers : List AnswerRead)
      (done : GetDone J) : Type 0
    where
      pub since_is : done.since ≡ since
      pub row : IsSameRow done.row.versions (newest (rows_of (first_answers seens)))
      pub context : done.context ≡ context_of done.row.versions
      pub from : done.from.items ≡ map answer_place (first_answers seens)
      pub seen : done.seen.items ≡ seens
      pub answers_are : done.answers.items ≡ answers

  -- what is asked and read from this coordinator's own row on: by the rule, no more than is needed,
  -- and where homes are lacking, until nothing is left
  pub record Collects (list : Preferred) (key : List ℕ) (r since c : ℕ) (own : Answer)
      (told : Told J) (seens : List Answer) (answers : List AnswerRead) : Type 0 where
    pub asks : AsksByRule list (Fetch (snapshot_of key) since) c told
    pub known : All (IsReplyTo told.asks) told.replies
    pub seens_are : seens ≡ own ∷ seens_of told.replies
    pub for_homes : All (λ s. Contains (homes_in list) s.home) seens
    pub answers_are : answers ≡ own_read list c ∷ map as_read told.replies
    pub of_key : All (λ a. a.key ≡ key) seens
    pub later : All (λ a. since < a.at) seens
    pub most : length (first_answers seens) ≤ r
    pub stops : StopsSoon r (own ∷ []) told.replies
    pub out : length (first_answers seens) < r →
        IsReadOut told × AllUsed list (Fetch (snapshot_of key) since) c told
