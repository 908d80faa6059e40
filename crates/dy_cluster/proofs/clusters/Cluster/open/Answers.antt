use Rattle.std.proofs.Common.{◌∙◌, ℕ, arith, ap, sym, subst}
use Rattle.dy_ring.specs.Rings.{Tokens}
use Rattle.dy_book.specs.Limits.{IsQuorum}
use Rattle.dy_book.specs.declared.options.Options.{Options}
use Rattle.dy_cluster.specs.Firsts.{AreFirstFrom}
use Rattle.dy_cluster.proofs.clusters.Cluster.open.Goals as goal

-- the shares are those of the nodes in their order, and no lock is made yet
pub lock_all-requires-clause-first : goal.lock_all-requires-clause-first
lock_all-requires-clause-first g c =
    subst (λ (n : ℕ). AreFirstFrom n c.in-Ok.made.shares.items) (sym c.in_ok-nodes.ensures.len)
    c.in-Ok.ensures.first

-- there is a lock for each
pub lock_all-requires-clause-room : goal.lock_all-requires-clause-room
lock_all-requires-clause-room g c =
    omega (
      arith,
      c.in-Ok.ensures.count,
      c.nodes.ensures.value,
      c.from-count.ensures,
      c.in_ok-nodes.ensures.capacity,
      c.in_ok-nodes.ensures.len,
    )

pub invariant_of-result : goal.invariant_of-result
invariant_of-result g c =
    let options = c.in-Ok.ensures.options in
    let ring = c.in-Ok.ensures.ring in
    let nodes = ap (λ (t : Tokens). t.nodes) c.requires.named.1 in
    record {
      ring_is = ring ∙ c.requires.named.1;
      n_is = ap (λ (o : Options). o.n) options ∙ c.requires.named.2;
      r_is = ap (λ (o : Options). o.r) options ∙ c.requires.named.3;
      quorum = subst (λ (o : Options). IsQuorum o c.in-Ok.made.ring.nodes) (sym options)
          (subst (λ (t : Tokens). IsQuorum c.args.opened.options t.nodes) (sym ring)
          c.args.opened.quorum);
      count = omega (
        arith,
        nodes,
        c.lock_all.ensures.count,
        c.in_ok-nodes.ensures.len,
        c.in-Ok.ensures.count,
      );
    }

-- there is room for the share and the rest of each
pub invariant_of-new : goal.invariant_of-new
invariant_of-new g c =
    let nodes = ap (λ (t : Tokens). t.nodes) c.requires.named.1 in
    record {
      no_shares = c.lock_all.ensures.emptied;
      no_rests = c.in_ok-rests.ensures.items;
      shares_room = omega (
        arith,
        nodes,
        c.in-Ok.ensures.count,
        c.lock_all.ensures.memory,
        c.in-Ok.made.shares.ok,
      );
      rests_room = omega (
        arith,
        nodes,
        c.nodes.ensures.value,
        c.from-count.ensures,
        c.in_ok-rests.ensures.capacity,
      );
    }
