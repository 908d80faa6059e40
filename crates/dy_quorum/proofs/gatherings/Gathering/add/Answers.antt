-- The home is there, or its place is added.
use Rattle.std.proofs.Common.{◌≡◌, ◌<◌, ◌+◌, ◌++◌, ◌∷◌, [], List, length, length-append, arith}
use Rattle.std.proofs.Common.{refl, sym, ◌∙◌, subst, ap}
use Rattle.std.proofs.lemmas.List.{length-map}
use Rattle.std.proofs.lemmas.List.Elements.{All-push}
use Rattle.dy_dots.specs.declared.nodes.TheConstants.{MAX_NODES}
use Rattle.dy_core.specs.Logs.{Answer}
use Rattle.dy_quorum.specs.Gatherings.{Gathered, answer_homes, answer_place, first_answers}
use Rattle.dy_quorum.proofs.Firsts.{are_push, home_in, kept_same, kept_more, room_for}
use Rattle.dy_quorum.proofs.Homes.{at_places}
use Rattle.dy_quorum.proofs.gatherings.Gathering.add.Goals as goal
use Rattle.dy_quorum.proofs.gatherings.Gathering.add.Goals.{then-not-has_home, else-not-has_home}

pub invariant_of-self : goal.invariant_of-self
invariant_of-self g c =
    let inv = c.self.invariant in
    let ss : List Answer = c.self.inside.seens.items in
    let s : Answer = c.args.seen in
    let P : Gathered → Type 0 = λ t. length t.seens < t.room in
    let room : length ss < c.self.inside.room = subst P (sym c.self.view_is) c.requires in
    let tested : c.has_home.result ≡ home_in (answer_homes (first_answers ss)) s.home =
    c.has_home.ensures ∙ rw (c.as_slice.ensures.value, c.home-home.ensures)
    (at_places ss s.home _ inv.0) in
    let node : s.home < MAX_NODES = omega (arith, c.home-home.ensures, c.number-number.ensures.value, c.number-number.ensures.small) in
    let small = All-push (λ (a : Answer). a.home < MAX_NODES) ss s inv.4 node in
    let more : length (ss ++ s ∷ []) ≡ length ss + 1 = length-append ss (s ∷ []) in
    rw (c.push_reserved.ensures.items, c.push_reserved.ensures.capacity)
    (elim c.if-not-has_home.branch [
      | then-not-has_home w ↦ rw (w.self-inside-is)
          (let lacks = sym tested ∙ w.if-not-has_home.true in (
            rw (w.push.ensures.items, c.home-home.ensures, c.holder-holder.ensures)
                (kept_more (λ (a : Answer). a.home) answer_place ss s _ _ refl inv.0 lacks),
            are_push (λ (a : Answer). a.home) ss s inv.1,
            omega arith,
            inv.3,
            small,
          ))
      | else-not-has_home w ↦ rw (w.self-inside-is)
          (let has = sym tested ∙ w.if-not-has_home.false in (
            kept_same (λ (a : Answer). a.home) answer_place ss s _ _ refl inv.0 has,
            are_push (λ (a : Answer). a.home) ss s inv.1,
            omega arith,
            inv.3,
            small,
          ))
    ])

-- a home that is not there yet leaves room for itself
pub push-requires : goal.push-requires
push-requires g c =
    let inv = c.self.invariant in
    let ss : List Answer = c.self.inside.seens.items in
    let s : Answer = c.args.seen in
    let tested : c.has_home.result ≡ home_in (answer_homes (first_answers ss)) s.home =
    c.has_home.ensures ∙ rw (c.as_slice.ensures.value, c.home-home.ensures)
    (at_places ss s.home _ inv.0) in
    let node : s.home < MAX_NODES = omega (arith, c.home-home.ensures, c.number-number.ensures.value, c.number-number.ensures.small) in
    let few : length (answer_homes (first_answers ss)) < 32 = room_for (λ (a : Answer). a.home) 32 ss s
    (answer_homes (first_answers ss)) refl inv.1
    (All-push (λ (a : Answer). a.home < MAX_NODES) ss s inv.4 node)
    (sym tested ∙ c.if-not-has_home.true) in
    let homes : length (answer_homes (first_answers ss)) ≡ length (first_answers ss) =
    length-map (first_answers ss) (λ (a : Answer). a.home) in
    let places : length c.self.inside.places.items ≡ length (first_answers ss) =
    ap length inv.0 ∙ length-map (first_answers ss) answer_place in
    (omega arith, omega arith)
