use Rattle.std.proofs.Common.{◌≡◌, ◌++◌, ◌-◌, drop, map}
use Rattle.dy_serve.proofs.news.less.Given as goal

-- what was made, with what is to come
abbrev pub invariant-loop-number : goal.invariant-loop-number
invariant-loop-number l =
    l.made.items ++ map (λ x. x - l.before) (drop l.number-index l.numbers)
    ≡ map (λ x. x - l.before) l.numbers
