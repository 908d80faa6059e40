use Rattle.std.proofs.Common.{◌∙◌, ℕ, List, IsTrue, length, map, ap, sym, subst, arith}
use Rattle.std.specs.List.{All}
use Rattle.dy_core.specs.Logs.{Answer}
use Rattle.dy_preference.specs.Preferences.{homes_of, may_hold}
use Rattle.dy_repair.proofs.Noting.{once_few, once_may}
use Rattle.dy_repair.proofs.repairs.repair.Goals as goal

-- there are no more homes than there is room for
pub ask_each-requires-clause-room : goal.ask_each-requires-clause-room
ask_each-requires-clause-room g c =
    let answers : List Answer = map (λ s. s.now) c.as_slice.result.now in
    let few = once_few c.args.list.now answers c.nodes-nodes.ensures.valid in
    let same = ap length (c.as_slice-2.ensures.value ∙ c.in_ok-homes.ensures.ok) in
    let room = c.requires.room in
    omega (arith, few, same, room)

-- each is a home of the row's key
pub ask_each-requires-clause-may_ask : goal.ask_each-requires-clause-may_ask
ask_each-requires-clause-may_ask g c =
    let answers : List Answer = map (λ s. s.now) c.as_slice.result.now in
    let key : List ℕ = c.args.row.now.key in
    let P : List ℕ → Type 0 = λ hs. All (λ home.
    IsTrue (may_hold (homes_of g.J.Naming.ring g.J.Naming.n key) home home)) hs in
    subst P (sym (c.as_slice-2.ensures.value ∙ c.in_ok-homes.ensures.ok))
    (once_may g.J.Naming.ring g.J.Naming.n key c.args.list.now answers
    c.requires.nodes c.requires.homes)
