-- By whose row it is.
use Rattle.std.proofs.Common.{◌≡◌, ℕ, List, None, Option, IfOk, OnErr, Result, Ok, Err, sym, ap, ◌∙◌, subst}
use Rattle.std.proofs.lemmas.Result.{IfOk-weaker}
use Rattle.std.specs.FinMap as maps
use Rattle.dy_dots.specs.declared.faults.Fault.{Fault}
use Rattle.dy_siblings.specs.Siblings.{Siblings}
use Rattle.dy_node_store.specs.Absorbing.{IsAbsorbed}
use Rattle.dy_node_store.specs.declared.placed.Placed.{Placed}
use Rattle.dy_node_store.specs.Kept.{Kept}
use Rattle.dy_node_store.specs.Rows.{with_versions}
use Rattle.dy_node_store.proofs.AbsorbLemmas.{absorbed_in}
use Rattle.dy_hint_store.specs.Hints.{Hints, with_versions_for}
use Rattle.dy_node.specs.Stored.{Rooms, Stored}
use Rattle.dy_node.specs.inside.Placing.{IsAdded}
use Rattle.dy_node.proofs.MergedRows.{added_absorbed, hint_absorbed, own_absorbed}
use Rattle.dy_node.proofs.MergedRows.{own_hints_absent}
use Rattle.dy_node.proofs.RoomLemmas.{apart_from}
use Rattle.dy_node.proofs.stores.Stores.add.Goals as goal

-- no hint is for the node itself, whatever came of the row
absent_after : (hints new : Hints) (node home : ℕ) (kept : Option Siblings) (row : Siblings)
    (r : Result Placed Fault) → (home ≡ node → ⊥) →
    IfOk r (IsAbsorbed hints new (with_versions_for hints home row.key) kept row) →
    OnErr r (new ≡ hints) → (k : List ℕ) →
    maps.get hints (node, k) ≡ None → maps.get new (node, k) ≡ None
absent_after hints new node home kept row (Ok placed) apart ok err k none =
    own_hints_absent hints new node home kept row placed apart ok k none
absent_after hints new node home kept row (Err e) apart ok err k none =
    ap (λ m. maps.get m (node, k)) err ∙ none

-- the node's own
pub returns-then-eq-clause-added : goal.returns-then-eq-clause-added
returns-then-eq-clause-added c =
    let row = c.args.row.now in
    let own = c.self.inside.own in
    let rooms_of : Kept → Rooms = λ k. record {
      node = c.self.inside.node;
      rows = k.rows;
      hints = c.self.inside.hints;
    } in
    IfOk-weaker c.absorb.result _ _
    (λ placed ok. subst (λ (s : Stored). IsAdded s.rooms (rooms_of c.absorb.new.self) c.args.home row placed)
    c.self.view_is
    (added_absorbed (rooms_of own) (rooms_of c.absorb.new.self) c.args.home row placed
    c.versions-versions.ensures.valid
    (own_absorbed (rooms_of own) (rooms_of c.absorb.new.self) c.args.home row placed
    (sym c.eq.ensures ∙ c.if-eq.true)
    (absorbed_in rooms_of own c.absorb.new.self
    (λ vs. record own { rows = with_versions own.rows row.key vs }) (maps.get own.rows row.key) row
    placed ok))))
    c.absorb.ensures.ok

-- a hint
pub invariant_of-self-else-eq : goal.invariant_of-self-else-eq
invariant_of-self-else-eq c = λ key.
    absent_after c.self.inside.hints c.absorb-else-eq.new.self c.self.inside.node c.args.home
    (maps.get c.self.inside.hints (c.args.home, c.args.row.now.key)) c.args.row.now
    c.absorb-else-eq.result (apart_from _ _ (sym c.eq.ensures ∙ c.if-eq.false))
    c.absorb-else-eq.ensures.ok c.absorb-else-eq.ensures.err key (c.self.invariant key)

pub returns-else-eq-clause-added : goal.returns-else-eq-clause-added
returns-else-eq-clause-added c =
    let row = c.args.row.now in
    let hints = c.self.inside.hints in
    let rooms_of : Hints → Rooms = λ h. record {
      node = c.self.inside.node;
      rows = c.self.inside.own.rows;
      hints = h;
    } in
    IfOk-weaker c.absorb-else-eq.result _ _
    (λ placed ok. subst (λ (s : Stored). IsAdded s.rooms (rooms_of c.absorb-else-eq.new.self) c.args.home row
    placed) c.self.view_is
    (added_absorbed (rooms_of hints) (rooms_of c.absorb-else-eq.new.self) c.args.home row placed
    c.versions-versions.ensures.valid
    (hint_absorbed (rooms_of hints) (rooms_of c.absorb-else-eq.new.self) c.args.home row placed
    (sym c.eq.ensures ∙ c.if-eq.false)
    (absorbed_in rooms_of hints c.absorb-else-eq.new.self
    (with_versions_for hints c.args.home row.key) (maps.get hints (c.args.home, row.key)) row
    placed ok))))
    c.absorb-else-eq.ensures.ok
