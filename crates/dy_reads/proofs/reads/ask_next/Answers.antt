use Rattle.std.proofs.Common.{ℕ, List, refl, subst}
use Rattle.std.proofs.lemmas.List.Elements.{All-head}
use Rattle.std.specs.List.{All}
use Rattle.dy_reads.specs.Rules.{MayRequest}
use Rattle.dy_reads.proofs.reads.ask_next.Goals as goal

-- the first of the nodes left may be asked
pub ask-requires-clause-may_ask : goal.ask-requires-clause-may_ask
ask-requires-clause-may_ask g c =
    let P : ℕ → Type 0 = λ node. MayRequest g.J.Naming.ring g.J.Naming.n c.args.request.now node
    c.args.home in
    let Q : List ℕ → Type 0 = λ xs. All P xs in
    c.for_home.ensures.allowed c.in-Some.next
    (All-head P c.in-Some.next c.next.new.self (subst Q c.in-Some.ensures.some c.requires.may_ask))

-- it is the first of those left
pub returns-in-Some-clause-asks : goal.returns-in-Some-clause-asks
returns-in-Some-clause-asks g c =
    rw (c.in-Some.ensures.some, c.ask.ensures, c.for_home.ensures.home, c.for_home.ensures.what)
    refl
