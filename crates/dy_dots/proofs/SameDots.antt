-- What the test on two dots says, and the order of dots.
use Rattle.std.proofs.Common.{◌≡◌, ◌⊎◌, true, ◌&&◌, eqb, refl, sym, inl, inr, arith}
use Rattle.std.specs.Cmp.{nat_eq_equiv}
use Rattle.std.proofs.lemmas.Bool.{and_parts, and_from, eqb-true, eq-eqb}
use Rattle.dy_dots.specs.Dots.{DotNumbers, same_dot, IsDotBefore}

pub same_dot_is : (a b : DotNumbers) → same_dot a b ≡ true → a ≡ b
same_dot_is a b e =
    let parts = and_parts (eqb a.node b.node) (eqb a.counter b.counter) e in
    let p : a.node ≡ b.node = eqb-true a.node b.node parts.0 in
    let q : a.counter ≡ b.counter = eqb-true a.counter b.counter parts.1 in
    λ i. record { node = p i; counter = q i }

pub same_dot_self : (a : DotNumbers) → same_dot a a ≡ true
same_dot_self a = and_from (eqb a.node a.node) (eqb a.counter a.counter) (eq-eqb a.node a.node refl)
    (eq-eqb a.counter a.counter refl)

pub same_dot_back : (a b : DotNumbers) → same_dot a b ≡ same_dot b a
same_dot_back a b = λ i. nat_eq_equiv.symm a.node b.node i && nat_eq_equiv.symm a.counter b.counter
    i

-- two dots of which neither comes before the other are one
pub meet_dots : (a b : DotNumbers) → (IsDotBefore b a ⊎ (b ≡ a)) →
    (IsDotBefore a b ⊎ (a ≡ b)) → b ≡ a
meet_dots a b (inr same) later = same
meet_dots a b (inl before) (inr same) = sym same
meet_dots a b (inl (inl p)) (inl (inl q)) = absurd (omega arith)
meet_dots a b (inl (inl p)) (inl (inr q)) = absurd (omega (arith, q.0))
meet_dots a b (inl (inr p)) (inl (inl q)) = absurd (omega (arith, p.0))
meet_dots a b (inl (inr p)) (inl (inr q)) = absurd (omega (arith, p.1, q.1))
