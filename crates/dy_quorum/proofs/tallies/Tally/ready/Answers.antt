use Rattle.std.proofs.Common.{◌↔◌, IsTrue, arith, refl, subst, true, false}
use Rattle.dy_quorum.specs.Tallies.{Counted, CanChoose}
use Rattle.dy_quorum.proofs.Choices.{choice_ready, choice_lacks}
use Rattle.dy_quorum.proofs.tallies.Tally.ready.Goals as goal

pub returns : goal.returns
returns g c =
    let P : Counted → Type 0 = λ t. IsTrue false ↔ CanChoose t.w t.added in
    subst P c.self.view_is ((λ t. absurd (cc)), (λ h. absurd (choice_lacks _ _ _ c.self.inside.homes.items c.self.invariant.1 c.self.invariant.0 (omega arith) h)))

pub returns-then-self-len : goal.returns-then-self-len
returns-then-self-len g c =
    let P : Counted → Type 0 = λ t. IsTrue true ↔ CanChoose t.w t.added in
    subst P c.self.view_is ((λ t. choice_ready _ _ _ c.self.inside.homes.items c.self.invariant.1 c.self.invariant.0 (omega arith)), (λ h. refl))
