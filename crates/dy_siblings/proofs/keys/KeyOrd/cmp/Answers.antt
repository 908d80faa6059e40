-- Short keys are ordered by their numbers.
use Rattle.std.proofs.Common.{◌<◌, ◌∙◌, inl, nat_cmp, length, arith}
use Rattle.dy_siblings.specs.inside.Leads.{lead_from}
use Rattle.dy_siblings.proofs.Leads.{number_is, ordered}
use Rattle.dy_siblings.proofs.keys.KeyOrd.cmp.Goals as goal

pub returns-in-Some-Some : goal.returns-in-Some-Some
returns-in-Some-Some c =
    let mine = c.in-Some-Some.ensures in
    let theirs = c.in-Some-Some.ensures' in
    let few : length c.args.self.now < 256 = let s = mine.size in omega (arith, s.1) in
    let less : length c.args.other.now < 256 = let s = theirs.size in omega (arith, s.1) in
    c.order.ensures
    ∙ (λ i. nat_cmp (lead_from 15 0 (mine.short i)) (lead_from 15 0 (theirs.short i)))
    ∙ (λ i. nat_cmp (number_is c.args.self.now i) (number_is c.args.other.now i))
    ∙ ordered c.args.self.now c.args.other.now mine.small theirs.small few less (λ _. inl mine.few)
