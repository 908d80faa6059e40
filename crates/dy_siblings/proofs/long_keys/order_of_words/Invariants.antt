-- The words so far are the same.
use Rattle.std.proofs.Common.{◌≡◌, ◌*◌}
use Rattle.dy_siblings.specs.inside.Leads.{lead_from}
use Rattle.dy_siblings.proofs.long_keys.order_of_words.Given as goal

abbrev pub invariant-loop-word : goal.invariant-loop-word
invariant-loop-word l = lead_from (8 * l.word) 0 l.all ≡ lead_from (8 * l.word) 0 l.others
