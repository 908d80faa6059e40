-- Short keys are equal as their fronts are.
use Rattle.std.proofs.Common.{◌∙◌, nat_eq}
use Rattle.std.specs.Cmp.Lexicographic.{pointwise}
use Rattle.dy_siblings.proofs.Words.{same_fronts}
use Rattle.dy_siblings.proofs.keys.KeyPartialEq.eq.Goals as goal

pub returns-in-Some-Some : goal.returns-in-Some-Some
returns-in-Some-Some c =
    let mine = c.in-Some-Some.ensures in
    let theirs = c.in-Some-Some.ensures' in
    c.are_same.ensures
    ∙ (λ i. pointwise nat_eq (mine.short i) (theirs.short i))
    ∙ same_fronts c.args.self.now c.args.other.now mine.few theirs.few
