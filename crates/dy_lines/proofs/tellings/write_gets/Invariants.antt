use Rattle.std.proofs.Common.{◌≡◌, List}
use Rattle.std.specs.Slice.Iter.{chunks_rest, chunks_size}
use Rattle.dy_shares.specs.Shares.{GetTold}
use Rattle.dy_lines.specs.Tellings.{AreFetchesOf}
use Rattle.dy_lines.proofs.Telling.{GetsSoFar}
use Rattle.dy_lines.proofs.tellings.write_gets.Given as goal

-- of whatever gets have these fetches, those of the fetches that are left are still to be written
abbrev pub invariant-loop-used : goal.invariant-loop-used
invariant-loop-used g l =
    record {
      can_next : (goal.iterator-loop-used g).can_next l.used-iterator;
      is_finite : (goal.iterator-loop-used g).is_finite l.used-iterator;
      size : chunks_size l.used-iterator ≡ l.r;
      so_far : (gets : List GetTold) → AreFetchesOf l.r l.fetches gets
          → GetsSoFar l.r l.session (chunks_rest l.used-iterator) gets
          (g.O.Write.contents l.initial.out) (g.O.Write.contents l.out);
    }
