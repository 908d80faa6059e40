use Rattle.dy_quorum.proofs.Choices.{holders_distinct}
use Rattle.dy_quorum.proofs.laws.distinct_homes_are_enough.Goals as goal

-- one holder has one home
pub returns : goal.returns
returns c w rs chosen agree choice = (
  chosen,
  record {
    count = choice.count;
    among = choice.among;
    homes = choice.homes;
    holders = holders_distinct rs chosen agree choice.among choice.homes;
  },
)
