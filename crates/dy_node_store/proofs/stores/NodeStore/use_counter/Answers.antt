-- The counters' entries answer the greater counter at the key, and at every other key what they did.
use Rattle.std.proofs.Common.{◌≡◌, ◌≤◌, unwrap_or, refl, sym, ap, ◌∙◌, max, IsSome, OnErr, Result, Ok, Err, subst, arith}
use Rattle.std.specs.Option.{option_copied_mut}
use Rattle.std.specs.FinMap as maps
use Rattle.dy_node_store.specs.Counters.{greatest_used}
use Rattle.dy_node_store.proofs.Hashed.{found, inserted}
use Rattle.dy_node_store.proofs.CounterLemmas.{le_greatest_used, greatest_used-le}
use Rattle.dy_node_store.proofs.stores.NodeStore.use_counter.Goals as goal

-- what holds, holds of a refusal
refused : {A E : Type 0} {P : Type 0} (r : Result A E) → P → OnErr r P
refused (Ok x) p = tt
refused (Err e) p = p

-- the greater one is written at the key, and nothing at another
pub returns-in-Some-clause-ok : goal.returns-in-Some-clause-ok
returns-in-Some-clause-ok c =
    let seen = ap (λ kept. kept.counters) c.self.view_is in
    let there = found _ _ _ _ _ seen refl c.get_mut.ensures.value ∙ ap option_copied_mut c.in-Some.is in
    let present = subst IsSome (sym (ap option_copied_mut c.in-Some.is) ∙ c.get_mut.ensures.value) refl in
    let greatest = c.max.ensures ∙ ap (λ o. max (unwrap_or o 0) c.args.counter) (sym there) in
    let counters = inserted _ _ _ _ ((c.get_mut.follows.holds c.max.result).3 present).0
    ∙ (λ i. maps.insert (seen i) c.args.key.now (greatest i)) in
    λ i. record { rows = (c.self.view_is i).rows; counters = counters i }

-- a key that has no counter has used none
pub returns-in_err-key-in-None-clause-absent : goal.returns-in_err-key-in-None-clause-absent
returns-in_err-key-in-None-clause-absent c =
    refused _ (found _ _ _ _ _ (ap (λ kept. kept.counters) c.self.view_is) refl c.get_mut.ensures.value ∙ ap option_copied_mut c.in-None.is)

pub returns-in_err-insert-in-None-clause-absent : goal.returns-in_err-insert-in-None-clause-absent
returns-in_err-insert-in-None-clause-absent c =
    refused _ (found _ _ _ _ _ (ap (λ kept. kept.counters) c.self.view_is) refl c.get_mut.ensures.value ∙ ap option_copied_mut c.in-None.is)

pub returns-in_ok-insert-in-None-clause-ok : goal.returns-in_ok-insert-in-None-clause-ok
returns-in_ok-insert-in-None-clause-ok c =
    let seen = ap (λ kept. kept.counters) c.self.view_is in
    let there = found _ _ _ _ _ seen refl c.get_mut.ensures.value ∙ ap option_copied_mut c.in-None.is in
    let alone : c.args.counter ≡ max 0 c.args.counter = omega arith in
    let greatest = alone ∙ ap (λ o. max (unwrap_or o 0) c.args.counter) (sym there) in
    let counters = inserted _ _ _ _ c.in_ok-insert-in-None.ensures.updates.0
    ∙ ap (λ m. maps.insert (maps.from_entries m.entries) c.in_ok-key-in-None.key c.args.counter) c.get_mut.follows.holds-at-none
    ∙ (λ i. maps.insert (seen i) (c.in_ok-key-in-None.ensures.value i) (greatest i)) in
    λ i. record { rows = (c.self.view_is i).rows; counters = counters i }

-- so no counter is lower, and this one is used
pub returns-in-Some-clause-not_lower : goal.returns-in-Some-clause-not_lower
returns-in-Some-clause-not_lower c q =
    let counters = ap (λ kept. kept.counters) (returns-in-Some-clause-ok c) in
    subst (λ m. greatest_used c.args.self.now.counters q ≤ greatest_used m q) (sym counters) (greatest_used-le _ _ q _)

pub returns-in_ok-insert-in-None-clause-not_lower : goal.returns-in_ok-insert-in-None-clause-not_lower
returns-in_ok-insert-in-None-clause-not_lower c q =
    let counters = ap (λ kept. kept.counters) (returns-in_ok-insert-in-None-clause-ok c) in
    subst (λ m. greatest_used c.args.self.now.counters q ≤ greatest_used m q) (sym counters) (greatest_used-le _ _ q _)

pub returns-in-Some-clause-used : goal.returns-in-Some-clause-used
returns-in-Some-clause-used c =
    let counters = ap (λ kept. kept.counters) (returns-in-Some-clause-ok c) in
    subst (λ m. c.args.counter ≤ greatest_used m c.args.key.now) (sym counters) (le_greatest_used _ _ _)

pub returns-in_ok-insert-in-None-clause-used : goal.returns-in_ok-insert-in-None-clause-used
returns-in_ok-insert-in-None-clause-used c =
    let counters = ap (λ kept. kept.counters) (returns-in_ok-insert-in-None-clause-ok c) in
    subst (λ m. c.args.counter ≤ greatest_used m c.args.key.now) (sym counters) (le_greatest_used _ _ _)
