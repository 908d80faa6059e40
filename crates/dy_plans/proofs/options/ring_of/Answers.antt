-- the ring of the lists that the layout says
use Rattle.std.proofs.Common.{map, subst}
use Rattle.std.specs.Prelude.{vec_items}
use Rattle.dy_plans.specs.RingLines.{IsRingMade}
use Rattle.dy_plans.proofs.options.ring_of.Goals as goal

pub returns-in-Tokens : goal.returns-in-Tokens
returns-in-Tokens c =
    let made = c.from_tokens.ensures in
    rw c.in-Tokens.is
    (subst (λ lists. IsRingMade (map vec_items lists) c.from_tokens.result)
    c.as_slice.ensures.value (record {
      ok = made.ok;
      too_many = made.too_many;
      without = made.without;
      clash = made.clash;
      told = made.told;
      memory = made.memory;
    }))

pub returns-in-Derived : goal.returns-in-Derived
returns-in-Derived c =
    let made = c.derived.ensures in
    rw c.in-Derived.is (record {
      ok = made.ok;
      too_many = made.too_many;
      without = made.without;
      clash = made.clash;
      told = made.told;
      memory = made.memory;
    })
