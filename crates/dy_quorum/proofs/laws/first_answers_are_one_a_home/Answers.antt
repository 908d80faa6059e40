use Rattle.std.proofs.Common.{List, subst, sym}
use Rattle.std.specs.List.{Contains}
use Rattle.dy_core.specs.Logs.{Answer}
use Rattle.dy_quorum.specs.Firsts.{AreFirstsBy}
use Rattle.dy_quorum.specs.Gatherings.{first_answers}
use Rattle.dy_quorum.proofs.Firsts.{are_firsts, distinct_by, first_is_taken}
use Rattle.dy_quorum.proofs.laws.first_answers_are_one_a_home.Goals as goal

-- they differ in pairs by their homes, and what is taken stays
pub returns : goal.returns
returns c answers =
    let are : AreFirstsBy (λ (a : Answer). a.home) answers (first_answers answers) =
    are_firsts (λ (a : Answer). a.home) answers in
    record {
      among = are.among;
      homes = distinct_by (λ (a : Answer). a.home) (first_answers answers) are.homes;
      first = λ before after a is none.
          (let P : List Answer → Type 0 = λ xs. Contains (first_answers xs) a in
          subst P (sym is) (first_is_taken (λ (b : Answer). b.home) before after a none));
    }
