use Rattle.dy_shares.proofs.Agreements.{begins}
use Rattle.dy_shares.proofs.parts.BlankRoll.new.Goals as goal

pub of_words-requires : goal.of_words-requires
of_words-requires c = begins
