use Rattle.std.proofs.Common.{ℕ, ◌<◌, ◌^◌, map, subst, sym}
use Rattle.std.specs.List.{All}
use Rattle.std.proofs.lemmas.List.Elements.{All-append, All-map}
use Rattle.dy_ring.proofs.Pairs.{pairs_more}
use Rattle.dy_ring.proofs.givens.pairs_of.Goals as goal

-- what was added is what the next list stands for
pub loop-number-preserved : goal.loop-number-preserved
loop-number-preserved c = record {
  so_far =
      pairs_more (λ list. list.items) c.args.lists.now c.loop-number.number c.nth.result c.index-lists-number.result c.loop-number.tokens.items c.add.new.tokens.items _ c.as_slice.result.now
      c.loop-number-test.true c.index-lists-number.is c.nth.ensures c.as_slice.ensures.value c.in_ok-add.ensures.ok c.loop-number.invariant.so_far;
  positions =
      let added = All-map (λ (t : ℕ × ℕ). t.0 < 2 ^ 128) (λ p. (p, c.nth.result)) c.as_slice.result.now c.in_ok-add.ensures.positions in
      subst (All (λ t. t.0 < 2 ^ 128)) (sym c.in_ok-add.ensures.ok)
      (All-append (λ t. t.0 < 2 ^ 128) c.loop-number.tokens.items (map (λ p. (p, c.nth.result)) c.as_slice.result.now) c.loop-number.invariant.positions added);
}
