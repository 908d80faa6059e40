use Rattle.std.proofs.Common.{◌≡◌, ◌∙◌, ◌≤◌, ◌<◌, ap, subst, sym, rules, nat_le, take, drop}
use Rattle.std.specs.List.{All}
use Rattle.std.proofs.lemmas.List.Sorted.{IsPartitionPoint-from_clause, IsPartitionedBy-leb}
use Rattle.dy_ring.specs.Rings.{Tokens, Rises}
use Rattle.dy_ring.proofs.Searching.{passed_by, ahead_of, never_falls}
use Rattle.dy_ring.proofs.rings.Ring.first_after.Goals as goal

-- the tokens rise, so the search may halve
pub returns-clause-passed : goal.returns-clause-passed
returns-clause-passed c =
    let ts = c.deref.result.now in
    let at = c.args.position in
    let i = c.partition_point.result in
    let same : ts ≡ c.args.self.now.tokens = c.deref.ensures.value ∙ ap (λ (r : Tokens). r.tokens) c.self.view_is in
    let rise : Rises (λ t. t.0) ts = subst (Rises (λ t. t.0)) (sym c.deref.ensures.value) c.self.invariant.rising in
    let parts = IsPartitionPoint-from_clause (λ t. nat_le t.0 at) ts i c.partition_point.ensures.partitioned (IsPartitionedBy-leb (λ t. t.0) ts at (never_falls (λ t. t.0) ts rise)) (λ a r q k. search rules) in
    subst (λ l. All (λ t. t.0 ≤ at) (take i l)) same (passed_by at i ts parts.0)

pub returns-clause-ahead : goal.returns-clause-ahead
returns-clause-ahead c =
    let ts = c.deref.result.now in
    let at = c.args.position in
    let i = c.partition_point.result in
    let same : ts ≡ c.args.self.now.tokens = c.deref.ensures.value ∙ ap (λ (r : Tokens). r.tokens) c.self.view_is in
    let rise : Rises (λ t. t.0) ts = subst (Rises (λ t. t.0)) (sym c.deref.ensures.value) c.self.invariant.rising in
    let parts = IsPartitionPoint-from_clause (λ t. nat_le t.0 at) ts i c.partition_point.ensures.partitioned (IsPartitionedBy-leb (λ t. t.0) ts at (never_falls (λ t. t.0) ts rise)) (λ a r q k. search rules) in
    subst (λ l. All (λ t. at < t.0) (drop i l)) same (ahead_of at i ts parts.1)
