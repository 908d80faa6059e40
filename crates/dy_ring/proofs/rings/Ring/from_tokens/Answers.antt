-- The sorted tokens are the lists' pairs in another order, so what stands twice in a row clashes.
use Rattle.std.proofs.Common.{◌≡◌, ◌∙◌, sym, subst, map, inl, ap, Some, None, ◌<◌, ◌^◌}
use Rattle.std.specs.List.{All}
use Rattle.std.specs.List.Sorted.{IsPermutation}
use Rattle.std.proofs.lemmas.Bool.{both_ways}
use Rattle.std.proofs.lemmas.List.{length-map}
use Rattle.std.proofs.lemmas.List.Sorted.{All-permutation}
use Rattle.dy_ring.specs.Lists.{IsRingOf, has_clash}
use Rattle.dy_ring.specs.Rings.{IsRing}
use Rattle.dy_ring.specs.inside.Making.{pairs_from, clash_of}
use Rattle.dy_ring.proofs.Making.{ring_from_pairs, rises_of, least_clash, no_clash, least_unique}
use Rattle.dy_ring.proofs.rings.Ring.from_tokens.Goals as goal

-- the first clash of the sorted tokens is the least of the lists
pub returns-in-Some-first_clash-clause-clash : goal.returns-in-Some-first_clash-clause-clash
returns-in-Some-first_clash-clause-clash c =
    λ position is.
    let given = map (λ list. list.items) c.args.lists.now in
    let ts = c.sort.new.tokens.items in
    let perm : IsPermutation (pairs_from 0 given) ts = subst (λ l. IsPermutation l ts) c.in_ok-tokens.ensures.ok c.sort.ensures.permutation in
    let up = c.sort.ensures.sorted in
    let same : c.in-Some-first_clash.position ≡ position = cc in
    let some : Some position ≡ clash_of ts = ap Some (sym same) ∙ c.in-Some-first_clash.ensures ∙ ap clash_of c.as_slice.ensures.value in
    ((sym c.if-are_too_many.ensures, c.in_default.ensures), least_clash given ts position perm up some)

pub returns-in-Some-first_clash-clause-told : goal.returns-in-Some-first_clash-clause-told
returns-in-Some-first_clash-clause-told c =
    λ position filled least.
    let given = map (λ list. list.items) c.args.lists.now in
    let ts = c.sort.new.tokens.items in
    let perm : IsPermutation (pairs_from 0 given) ts = subst (λ l. IsPermutation l ts) c.in_ok-tokens.ensures.ok c.sort.ensures.permutation in
    let up = c.sort.ensures.sorted in
    let some : Some c.in-Some-first_clash.position ≡ clash_of ts = c.in-Some-first_clash.ensures ∙ ap clash_of c.as_slice.ensures.value in
    let same : c.in-Some-first_clash.position ≡ position = least_unique (has_clash given) c.in-Some-first_clash.position position (least_clash given ts c.in-Some-first_clash.position perm up some) least in
    inl (cc)

pub returns-in-Some-first_clash-clause-memory : goal.returns-in-Some-first_clash-clause-memory
returns-in-Some-first_clash-clause-memory c =
    λ filled none.
    let given = map (λ list. list.items) c.args.lists.now in
    let ts = c.sort.new.tokens.items in
    let perm : IsPermutation (pairs_from 0 given) ts = subst (λ l. IsPermutation l ts) c.in_ok-tokens.ensures.ok c.sort.ensures.permutation in
    let up = c.sort.ensures.sorted in
    let some : Some c.in-Some-first_clash.position ≡ clash_of ts = c.in-Some-first_clash.ensures ∙ ap clash_of c.as_slice.ensures.value in
    absurd (both_ways _ (none c.in-Some-first_clash.position) (least_clash given ts c.in-Some-first_clash.position perm up some).0)

-- the sorted tokens rise, since no position stands twice in a row
pub invariant_of-result : goal.invariant_of-result
invariant_of-result c =
    let given = map (λ list. list.items) c.args.lists.now in
    let ts = c.sort.new.tokens.items in
    let perm : IsPermutation (pairs_from 0 given) ts = subst (λ l. IsPermutation l ts) c.in_ok-tokens.ensures.ok c.sort.ensures.permutation in
    let up = c.sort.ensures.sorted in
    let none : clash_of ts ≡ None = ap clash_of (sym c.as_slice.ensures.value) ∙ sym c.in_default-first_clash.ensures in
    let small : All (λ t. t.0 < 2 ^ 128) ts = All-permutation (λ t. t.0 < 2 ^ 128) _ ts c.sort.ensures.permutation c.in_ok-tokens.ensures.positions in
    let both = ring_from_pairs given ts (sym c.if-are_too_many.ensures) c.in_default.ensures perm (rises_of ts up none) small in
    subst (λ n. IsRing (record { nodes = n; tokens = ts })) (length-map c.args.lists.now (λ list. list.items)) both.0

pub returns-clause-ok : goal.returns-clause-ok
returns-clause-ok c =
    let given = map (λ list. list.items) c.args.lists.now in
    let ts = c.sort.new.tokens.items in
    let perm : IsPermutation (pairs_from 0 given) ts = subst (λ l. IsPermutation l ts) c.in_ok-tokens.ensures.ok c.sort.ensures.permutation in
    let up = c.sort.ensures.sorted in
    let none : clash_of ts ≡ None = ap clash_of (sym c.as_slice.ensures.value) ∙ sym c.in_default-first_clash.ensures in
    let small : All (λ t. t.0 < 2 ^ 128) ts = All-permutation (λ t. t.0 < 2 ^ 128) _ ts c.sort.ensures.permutation c.in_ok-tokens.ensures.positions in
    let both = ring_from_pairs given ts (sym c.if-are_too_many.ensures) c.in_default.ensures perm (rises_of ts up none) small in
    subst (λ n. IsRingOf given (record { nodes = n; tokens = ts })) (length-map c.args.lists.now (λ list. list.items)) both.1

pub returns-clause-told : goal.returns-clause-told
returns-clause-told c =
    λ position filled least.
    let given = map (λ list. list.items) c.args.lists.now in
    let ts = c.sort.new.tokens.items in
    let perm : IsPermutation (pairs_from 0 given) ts = subst (λ l. IsPermutation l ts) c.in_ok-tokens.ensures.ok c.sort.ensures.permutation in
    let up = c.sort.ensures.sorted in
    let none : clash_of ts ≡ None = ap clash_of (sym c.as_slice.ensures.value) ∙ sym c.in_default-first_clash.ensures in
    absurd (both_ways _ (no_clash given ts position perm (rises_of ts up none)) least.0)
